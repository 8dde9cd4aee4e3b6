use Rattle.std.proofs.Common.{◌∷◌, [], ◌++◌, ℕ, List, ◌≡◌, ◌+◌, ◌≤◌, length, ap, sym, subst, ◌∙◌, arith, rules}
use Rattle.std.specs.Prelude.{MatchOption, Option, None, Some}
use Rattle.ocr_base.specs.Mail.{Has, named, tally, without}
use Rattle.ocr_turns_rule.specs.Sums.{find, remove_at}
use Rattle.ocr_turns_rule.specs.Steps.{without_part}
use Rattle.ocr_turns_rule.specs.Units.{one_each}
use Rattle.ocr_tests_turns.specs.Clerks.{IsIdle}
use Rattle.ocr_tests_turns.proofs.Adds.{may_add, sent_pays, taken_part}
use Rattle.ocr_tests_turns.proofs.play.add.Goals as goal

pub commit-requires-clause-may : goal.commit-requires-clause-may
commit-requires-clause-may g c = λ goes.
    let tk = c.in-Mine.ensures in
    let place = c.args.place in
    let before = ap (λ v. v.parts) c.in_ok-reserve.ensures.same.1 ∙ c.requires.idle.parts in
    let hand = tk.4 ∙ ap (λ (l : List (ℕ × Option ℕ)). l ++ (place, Some tk.0) ∷ []) (c.in_ok-reserve.ensures.same.2 ∙ c.requires.idle.hand) in
    let found = taken_part place tk.0 c.part-found.result.now (ap (λ l. find place l) (sym hand) ∙ c.part-found.ensures) in
    let are = ap (λ v. v.parts) tk.3 ∙ (ap (λ (l : List (ℕ × ℕ)). l ++ (place, tk.0) ∷ []) before ∙ ap (λ x. (place, x) ∷ []) found) in
    let light = ap (λ v. v.weight) tk.3 ∙ ap (λ v. v.weight) c.in_ok-reserve.ensures.same.1 in
    let spares = ap (λ v. v.spares) tk.3 ∙ ap (λ v. v.spares) c.in_ok-reserve.ensures.same.1 in
    let tallied = ap (λ v. tally one_each v.owed) tk.3 ∙ ap (λ v. tally one_each v.owed) c.in_ok-reserve.ensures.same.1 in
    let owed = subst (Has c.args.delivered) (sym (ap (λ v. v.owed) tk.3 ∙ ap (λ v. v.owed) c.in_ok-reserve.ensures.same.1)) c.requires.owes in
    may_add c.args.turns.now.1 c.take.new.clerk.view place c.part-found.result.now c.args.count c.in-Some.after c.args.delivered c.in_ok-vec.field-0.items c.in_ok-vec-2.field-0.items
    c.requires.place.0 c.requires.place.1 are (omega (arith, light, c.weight.ensures, c.share.ensures)) owed (let idle = c.requires.idle.pays in omega arith) (let unit = c.requires.unit in omega arith) c.in_ok-vec.ensures.items (omega (arith, c.in-Some.ensures)) c.in_ok-vec-2.ensures.items

pub returns-clause-added : goal.returns-clause-added
returns-clause-added g c =
    let home = c.give_back.new.clerk in let done = c.in-At.ensures in let entered = c.commit.new.clerk in
    let goes : entered.view.closed ≡ None = ap (λ v. v.closed) done.3 ∙ done.0 in
    let gave = subst (λ o. MatchOption o ((home.table ≡ entered.table) × (home.view ≡ without_part entered.view c.args.place) × (home.parts ≡ remove_at c.args.place entered.parts) × (home.room ≡ entered.room) × (home.spare ≡ entered.spare + 1) × (home.space ≡ entered.space)) (λ _. home ≡ entered)) goes c.give_back.ensures in
    let before = ap (λ v. v.owed) c.in-Mine.ensures.3 ∙ ap (λ v. v.owed) c.in_ok-reserve.ensures.same.1 in
    let owed : home.view.owed ≡ without c.args.delivered c.args.clerk.now.view.owed ++ (c.in-At.number, 0, c.args.count) ∷ [] = ap (λ v. v.owed) gave.1 ∙ (ap (λ v. v.owed) done.3 ∙ (ap (λ ms. without c.args.delivered c.take.new.clerk.view.owed ++ named c.in-At.number 0 ms) c.in_ok-vec-2.ensures.items ∙ ap (λ xs. without c.args.delivered xs ++ (c.in-At.number, 0, c.args.count) ∷ []) before)) in
    let pays = sent_pays home.view.spares (without c.args.delivered c.args.clerk.now.view.owed) home.view.owed (c.in-At.number, 0, c.args.count) owed in
    let raised = ap (λ v. v.raised) gave.1 ∙ (ap (λ v. v.raised) done.3 ∙ (ap (λ v. v.raised) c.in-Mine.ensures.3 ∙ ap (λ v. v.raised) c.in_ok-reserve.ensures.same.1)) in
    let few : home.view.raised ≤ 4294967296 = (let was = c.requires.idle.raised in omega arith) in
    let idle : IsIdle c.args.turns.now home = search (rules, pays, few) in
    record {
      idle = idle;
      spares = (let home_is = ap (λ v. v.spares) gave.1 in let after = ap (λ v. v.spares) done.3 in let sent = ap length c.in_ok-vec-2.ensures.items in let first = ap (λ v. v.spares) c.in-Mine.ensures.3 in let held = ap (λ v. v.spares) c.in_ok-reserve.ensures.same.1 in omega arith);
      owed = owed;
    }
