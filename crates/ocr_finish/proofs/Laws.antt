-- The laws of a scope's steps, for the crates above.
use Rattle.std.proofs.Common.{[], ◌∷◌, arith}
use Rattle.std.proofs.lemmas.Grind.{common_steps}
use Rattle.ocr_finish.specs.Scope.{Joining, Parting, JoinLaw, LeaveLaw, MembersLaw}

pub join_law : JoinLaw
join_law outer event calls fits = grind (arith, common_steps)

pub leave_law : LeaveLaw
leave_law outer event calls fits = (grind (arith, common_steps), grind (arith, common_steps))

pub members_law : MembersLaw
members_law [] fits = omega arith
members_law (Joining ∷ past) fits = omega (arith, members_law past fits.0, fits.1)
members_law (Parting ∷ past) fits = omega (arith, members_law past fits.0, fits.1)
