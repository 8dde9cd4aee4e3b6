use Rattle.std.proofs.Common.{◌≡◌, drop}
use Rattle.ocr_program_check.specs.Checked.{arguments_rule}
use Rattle.ocr_program_check.specs.Names.{known_in, declared_in}
use Rattle.ocr_program_tree.specs.Argument.{plain_of}
use Rattle.ocr_program_tree.specs.View.{name_of, members_of}
use Rattle.ocr_program_tree.specs.declared.rules.TheConstants.{MOST_PARAMETERS}
use Rattle.ocr_program_tree.specs.declared.tree.CallName.TheVariants.{EdtCreate}
use Rattle.ocr_program_check.proofs.names.Names.+expression.Given as goal

-- what the arguments break is what those that are left break
abbrev pub invariant-arguments-loop-place : goal.invariant-arguments-loop-place
invariant-arguments-loop-place l =
    arguments_rule (known_in l.self) (declared_in l.self) (name_of l.call) MOST_PARAMETERS (plain_of l.list.items)
    ≡ arguments_rule (known_in l.self) (declared_in l.self) (name_of l.call) l.most (plain_of (drop l.place l.list.items))

-- what the members break is what those that are left break
abbrev pub invariant-members-loop-member : goal.invariant-members-loop-member
invariant-members-loop-member l =
    arguments_rule (known_in l.self) (declared_in l.self) EdtCreate MOST_PARAMETERS (members_of l.members)
    ≡ arguments_rule (known_in l.self) (declared_in l.self) EdtCreate MOST_PARAMETERS (members_of (drop l.member-index l.members))
