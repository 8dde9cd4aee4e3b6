-- Templates: how many parameters and dependences a creation gets from one.
use Rattle.std.specs.Prelude.{◌≡◌, ◌<◌, ℕ, Bool, ◌||◌, ◌&&◌, not, ◌==◌, nat_lt, if◌then◌else◌, ◌⊎◌, Result, Ok, Err}
use Rattle.ocr_guid.specs.declared.Code.{Code}
use Rattle.ocr_guid.specs.declared.Code.TheVariants.{Einval}
use Rattle.ocr_base.specs.declared.limits.TheConstants.{MOST_PARAMETERS, MOST_DEPENDENCES}
use Rattle.ocr_base.specs.declared.default.TheConstants.{EDT_PARAM_UNK, EDT_PARAM_DEF}
pub use Rattle.ocr_base.specs.Default.{count_meant}
use Rattle.ocr_template.specs.declared.Template.{Template}

-- THE REFUSALS of a count, each in its own words.

-- the default is asked for, and the template leaves the count open
abbrev pub LacksDefault : (own given : ℕ) → Type 0
LacksDefault own given = (given ≡ EDT_PARAM_DEF) × (own ≡ EDT_PARAM_UNK)

-- a count is given, and the template has another one
abbrev pub Differs : (own given : ℕ) → Type 0
Differs own given = (¬ given ≡ EDT_PARAM_DEF) × (¬ own ≡ EDT_PARAM_UNK) × (¬ given ≡ own)

-- more are meant than an EDT can have
abbrev pub IsTooMany : (own given most : ℕ) → Type 0
IsTooMany own given most = most < count_meant own given

abbrev pub IsRefused : (own given most : ℕ) → Type 0
IsRefused own given most = LacksDefault own given ⊎ Differs own given ⊎ IsTooMany own given most

-- THE ANSWER, computed.
abbrev pub is_refused : (own given most : ℕ) → Bool
is_refused own given most =
    ((given == EDT_PARAM_DEF) && (own == EDT_PARAM_UNK))
    || (not (given == EDT_PARAM_DEF) && not (own == EDT_PARAM_UNK) && not (given == own))
    || nat_lt most (count_meant own given)

abbrev pub counts_of : Template → (paramc depc : ℕ) → Result (ℕ × ℕ) Code
counts_of template paramc depc =
    if is_refused template.paramc paramc MOST_PARAMETERS
    || is_refused template.depc depc MOST_DEPENDENCES then Err Einval
    else Ok (count_meant template.paramc paramc, count_meant template.depc depc)
