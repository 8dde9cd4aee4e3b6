use Rattle.std.proofs.Common.{◌≡◌, ℕ, ◌+◌, List, [], ◌∷◌, length, refl, sym, ◌∙◌, ap, subst, arith}
use Rattle.ocr_worker_clerk.specs.Work.{RunsNone}
use Rattle.ocr_worker_clerk.proofs.Goes.{Calm, work_still}
use Rattle.ocr_worker_machine.specs.Clerks.{OcrView}
use Rattle.ocr_turns_rule.specs.Sums.{as_some, keys, sum_of}
use Rattle.ocr_turns_rule.specs.Units.{one_each}
use Rattle.ocr_turns_rule.specs.Words.{unclaiming}
use Rattle.ocr_worker_acquisition.proofs.Parked.{has_claim, lets_wait, parked_claims}
use Rattle.ocr_worker_acquisition.proofs.park.park_edt.Goals as goal

calm : (v : OcrView) (edt : ℕ) → v.claims ≡ edt ∷ [] → Calm v (unclaiming v edt)
calm v edt claims = record {
  terms = refl;
  root = refl;
  seat = refl;
  out = refl;
  joined = refl;
  log = refl;
  weight = refl;
  drawn = refl;
  full = refl;
  reached = refl;
  closed = refl;
  stake = let a = ap claims_of claims in omega (arith, a);
  raised = refl;
  ended = refl;
}
  where
    claims_of : List ℕ → ℕ
    claims_of l = sum_of one_each l

view_is : (old mid new : OcrView) (edt : ℕ) → old.claims ≡ edt ∷ [] → mid ≡ unclaiming old edt → new ≡ record mid { parts = [] } → new ≡ record old { parts = []; claims = []; spares = old.spares + 1 }
view_is old mid new edt claims parked gave =
    gave ∙ (ap (λ (v : OcrView). record v { parts = [] }) parked ∙ ap (λ (l : List ℕ). record old { parts = []; claims = l; spares = old.spares + 1 }) (parked_claims old edt claims))

pub park-requires-clause-claimed : goal.park-requires-clause-claimed
park-requires-clause-claimed c = has_claim c.args.edt c.args.clerk.now.view.claims c.requires.taken.claims

pub park-requires-clause-waits : goal.park-requires-clause-waits
park-requires-clause-waits c = lets_wait c.args.turns.now c.args.program.now c.args.clerk.now c.args.edt c.args.places.now c.requires.work c.requires.waits

pub give_all-requires-clause-work : goal.give_all-requires-clause-work
give_all-requires-clause-work c =
    let old = c.args.clerk.now in let hand = c.park.ensures.hand in
    let room = hand.2.0 in let spare = hand.2.1 in let parts = ap length hand.1 in
    work_still c.args.turns.now c.args.program.now old c.park.new.clerk (unclaiming old.view c.args.edt) c.requires.work hand.0 c.park.ensures.view (calm old.view c.args.edt c.requires.taken.claims) (omega (arith, room)) (omega (arith, spare, parts))

pub give_all-requires-clause-keeps : goal.give_all-requires-clause-keeps
give_all-requires-clause-keeps c =
    let view = c.park.ensures.view in let waits = c.requires.waits in record {
      kept = ap (λ (v : OcrView). keys v.parts) view ∙ waits.kept;
      hand = c.park.ensures.hand.1 ∙ (waits.hand ∙ sym (ap (λ (v : OcrView). as_some v.parts) view));
      claims = ap (λ (v : OcrView). v.claims) view ∙ parked_claims c.args.clerk.now.view c.args.edt c.requires.taken.claims;
      none = subst RunsNone (sym view) waits.none;
      within = waits.within;
    }

pub returns-clause-view : goal.returns-clause-view
returns-clause-view c = view_is c.args.clerk.now.view c.park.new.clerk.view c.give_all.new.clerk.view c.args.edt c.requires.taken.claims c.park.ensures.view c.give_all.ensures.view

pub returns-clause-idle : goal.returns-clause-idle
returns-clause-idle c =
    let taken = c.requires.taken in
    let is = view_is c.args.clerk.now.view c.park.new.clerk.view c.give_all.new.clerk.view c.args.edt taken.claims c.park.ensures.view c.give_all.ensures.view in record {
      kept = ap (λ (v : OcrView). v.parts) is;
      hand = c.give_all.ensures.hand;
      claims = ap (λ (v : OcrView). v.claims) is;
      drawn = ap (λ (v : OcrView). v.drawn) is ∙ taken.drawn;
      owes = record {
        unput = ap (λ (v : OcrView). v.debts.unput) is ∙ taken.owes.unput;
        put = ap (λ (v : OcrView). v.debts.put) is ∙ taken.owes.put;
        made = ap (λ (v : OcrView). v.debts.made) is ∙ taken.owes.made;
        resumes = ap (λ (v : OcrView). v.debts.resumes) is ∙ taken.owes.resumes;
      };
      none = subst RunsNone (sym is) c.requires.waits.none;
    }
