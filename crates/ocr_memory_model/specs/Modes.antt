-- The mode in which a running EDT holds a block, by its core.
use Rattle.std.specs.Prelude.{ℕ, Option}
use Rattle.ocr_acquire.specs.declared.Mode.{Mode}
use Rattle.ocr_acquire.specs.Mode.{mode_in}
use Rattle.ocr_machine_parts.specs.declared.part.Core.{Core}
use Rattle.ocr_machine_parts.specs.Kinds.{holds_of, work_in}

abbrev pub mode_of_core : Core → ℕ → Option Mode
mode_of_core c d = mode_in d (holds_of (work_in c.edt))
