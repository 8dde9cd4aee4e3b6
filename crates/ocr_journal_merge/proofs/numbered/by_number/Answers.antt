use Rattle.std.proofs.Common.{◌≡◌, ◌∙◌, sym, ap, subst, arith, length, map}
use Rattle.std.proofs.lemmas.List.{length-map}
use mathlib.Core.Option.{some, some-injective}
use lib.ListN.{get_elem?}
use Rattle.atomic_table.proofs.Lists.{at_index, at_map}
use Rattle.ocr_turns_rule.specs.Sums.{entries}
use Rattle.ocr_turns_rule.proofs.Totals.{at_less}
use Rattle.ocr_journal_merge.proofs.Numbers.{same_length}
use Rattle.ocr_journal_merge.proofs.Whole.{whole_list}
use Rattle.ocr_journal_merge.proofs.numbered.by_number.Goals as goal

pub remove-requires : goal.remove-requires
remove-requires g c =
    let logs = c.args.logs.items in let bare = map (λ l. l.items) logs in let found = c.in-Some.ensures in
    let at = subst (λ l. get_elem? (map (λ l. l.items) l) c.in-Some.place ≡ some found.0) c.as_slice.ensures.value found.1 in
    let lt = at_less bare c.in-Some.place found.0 at in let many : length bare ≡ length logs = simp length-map in omega arith

pub returns-in-Some : goal.returns-in-Some
returns-in-Some g c = λ list is.
    let logs = c.args.logs.items in let bare = map (λ l. l.items) logs in let found = c.in-Some.ensures in let place = c.in-Some.place in
    let at = subst (λ l. get_elem? (map (λ l. l.items) l) place ≡ some found.0) c.as_slice.ensures.value found.1 in
    let lt = at_less bare place found.0 at in let many : length bare ≡ length logs = simp length-map in
    let log = c.remove.result in
    let here = at_map (λ l. l.items) logs place log (at_index logs place log (omega arith) c.remove.ensures.value) in
    let same : found.0 ≡ log.items = some-injective found.0 log.items (sym at ∙ here) in
    let listed = c.requires.listed in
    let count = sym (same_length bare listed.0 list listed.1 is ∙ listed.2) in
    c.into_entries.ensures ∙ (ap entries (sym same) ∙ whole_list list found.0 (is.of place found.0 at) (found.2 ∙ count) found.3)
