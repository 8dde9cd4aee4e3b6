-- What tells which objects are destroyed.
use Rattle.std.specs.Prelude.{◌≡◌, ℕ, Bool, ◌||◌}
use Rattle.std.specs.Ordering.{nat_cmp}
use Rattle.std.specs.BTreeMap.{get}
use Rattle.std.specs.BTreeSet.{contains}
use Rattle.ocr_machine_history.specs.History.{History}
use Rattle.ocr_machine_rules.specs.Blocks.{was_destroyed}
use Rattle.ocr_report.specs.declared.destroyed.Ends.{Ends}
use Rattle.ocr_report.specs.Tallies.{AreKinds, AreTallies, is_fired_by, kind_at}

-- destroyed by a call, or by firing
abbrev pub is_ended : Ends → ℕ → Bool
is_ended ends g =
    contains nat_cmp ends.victims g
    || is_fired_by (kind_at ends.kinds g) (get nat_cmp ends.tallies g)

pub record AreEnds (past : History) (ends : Ends) : Type 0 where
  pub victims : (g : ℕ) → contains nat_cmp ends.victims g ≡ was_destroyed past g
  pub kinds : AreKinds past ends.kinds
  pub tallies : AreTallies past ends.tallies
