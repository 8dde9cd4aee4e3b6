-- Counts of parameters and dependences that a creation leaves to its template.
use Rattle.std.specs.Prelude.{ℕ, ◌==◌, if◌then◌else◌}
use Rattle.ocr_base.specs.declared.default.TheConstants.{EDT_PARAM_DEF}

-- THE COUNT that a creation means: the template's own where it asks for the default, else the one
-- that it gives.
abbrev pub count_meant : (own given : ℕ) → ℕ
count_meant own given = if given == EDT_PARAM_DEF then own else given
