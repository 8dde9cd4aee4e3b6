-- Who holds and who waits, where one face and one core change.
use Rattle.std.proofs.Common.{◌≡◌, ℕ, true, false, Some, ◌==◌, if◌then◌else◌, refl, sym, ◌∙◌, ap, subst}
use Rattle.std.proofs.lemmas.Bool.{eqb-true, eq-eqb}
use Rattle.ocr_acquire.specs.declared.Mode.{Mode}
use Rattle.ocr_acquire.specs.Mode.{mode_in}
use Rattle.ocr_machine_parts.specs.declared.part.Part.{Part}
use Rattle.ocr_machine_parts.specs.Parts.{Parts}
use Rattle.ocr_machine_parts.specs.Progress.{with_face, with_core}
use Rattle.ocr_machine_laws.specs.Waits.{standing, is_gone_on, queue_on, held_on, rest_on, awaits, IsHolding, IsOrdered, AreStanding}

-- all but one EDT stand where they stood
pub record Keeps (t : ℕ) (x y : Part) : Type 0 where
  pub gone : is_gone_on y ≡ false → is_gone_on x ≡ false
  pub stays : (u : ℕ) (m : Mode) → (t == u) ≡ false → is_gone_on y ≡ false → mode_in u (standing x) ≡ Some m → mode_in u (standing y) ≡ Some m
  pub comes : (u : ℕ) (m : Mode) → (t == u) ≡ false → mode_in u (standing y) ≡ Some m → mode_in u (standing x) ≡ Some m
  pub queued : (u : ℕ) (m : Mode) → (t == u) ≡ false → mode_in u (queue_on y) ≡ Some m → mode_in u (queue_on x) ≡ Some m

-- and that one has what it stands for
pub record IsOwn (d : ℕ) (x : Part) (t : ℕ) (was y : Part) : Type 0 where
  pub wait : (e : ℕ) (m : Mode) → awaits y ≡ Some (e, m) → (d ≡ e) × (mode_in t (standing x) ≡ Some m)
  pub here : (m : Mode) → mode_in t (standing x) ≡ Some m → IsHolding y d m
  pub there : (e : ℕ) (m : Mode) → (d == e) ≡ false → IsHolding was e m → IsHolding y e m
  pub queued : (m : Mode) → mode_in t (queue_on x) ≡ Some m → awaits y ≡ Some (d, m)
  pub away : (e : ℕ) (m : Mode) → (d == e) ≡ false → awaits was ≡ Some (e, m) → awaits y ≡ Some (e, m)
  pub ordered : IsOrdered (held_on y) (rest_on y)

some_at : (x : Part) (d e : ℕ) (m : Mode) → d ≡ e → awaits x ≡ Some (e, m) → awaits x ≡ Some (d, m)
some_at x d e m same is = subst (λ (n : ℕ). awaits x ≡ Some (n, m)) (sym same) is

moved_waits : (f : Parts) (d : ℕ) (x : Part) (t : ℕ) (y : Part) → AreStanding f → Keeps t (f.face d) x → IsOwn d x t (f.core t) y
    → (u e : ℕ) (m : Mode) → awaits (if t == u then y else f.core u) ≡ Some (e, m) → is_gone_on (if d == e then x else f.face e) ≡ false → mode_in u (standing (if d == e then x else f.face e)) ≡ Some m
moved_waits f d x t y all keeps own u e m = elim (t == u) as (λ b. (t == u) ≡ b → awaits (if b then y else f.core u) ≡ Some (e, m) → is_gone_on (if d == e then x else f.face e) ≡ false → mode_in u (standing (if d == e then x else f.face e)) ≡ Some m) [
  | true ↦ λ tu is live.
      let found = own.wait e m is in
      let here : (d == e) ≡ true = eq-eqb d e found.0 in
      let its : mode_in u (standing x) ≡ Some m = subst (λ (n : ℕ). mode_in n (standing x) ≡ Some m) (eqb-true t u tu) found.1 in
      rw here its
  | false ↦ λ apart is. elim (d == e) as (λ c. (d == e) ≡ c → is_gone_on (if c then x else f.face e) ≡ false → mode_in u (standing (if c then x else f.face e)) ≡ Some m) [
    | true ↦ λ de live. keeps.stays u m apart live (all.waits u d m (some_at (f.core u) d e m (eqb-true d e de) is) (keeps.gone live))
    | false ↦ λ _ live. all.waits u e m is live
  ] refl
] refl

moved_holds : (f : Parts) (d : ℕ) (x : Part) (t : ℕ) (y : Part) → AreStanding f → Keeps t (f.face d) x → IsOwn d x t (f.core t) y
    → (u e : ℕ) (m : Mode) → mode_in u (standing (if d == e then x else f.face e)) ≡ Some m → IsHolding (if t == u then y else f.core u) e m
moved_holds f d x t y all keeps own u e m = elim (t == u) as (λ b. (t == u) ≡ b → mode_in u (standing (if d == e then x else f.face e)) ≡ Some m → IsHolding (if b then y else f.core u) e m) [
  | true ↦ λ tu. elim (d == e) as (λ c. (d == e) ≡ c → mode_in u (standing (if c then x else f.face e)) ≡ Some m → IsHolding y e m) [
    | true ↦ λ de is. subst (λ (n : ℕ). IsHolding y n m) (eqb-true d e de) (own.here m (subst (λ (n : ℕ). mode_in n (standing x) ≡ Some m) (sym (eqb-true t u tu)) is))
    | false ↦ λ apart is. own.there e m apart (all.holds t e m (subst (λ (n : ℕ). mode_in n (standing (f.face e)) ≡ Some m) (sym (eqb-true t u tu)) is))
  ] refl
  | false ↦ λ apart. elim (d == e) as (λ c. (d == e) ≡ c → mode_in u (standing (if c then x else f.face e)) ≡ Some m → IsHolding (f.core u) e m) [
    | true ↦ λ de is. subst (λ (n : ℕ). IsHolding (f.core u) n m) (eqb-true d e de) (all.holds u d m (keeps.comes u m apart is))
    | false ↦ λ _ is. all.holds u e m is
  ] refl
] refl

moved_queued : (f : Parts) (d : ℕ) (x : Part) (t : ℕ) (y : Part) → AreStanding f → Keeps t (f.face d) x → IsOwn d x t (f.core t) y
    → (u e : ℕ) (m : Mode) → mode_in u (queue_on (if d == e then x else f.face e)) ≡ Some m → awaits (if t == u then y else f.core u) ≡ Some (e, m)
moved_queued f d x t y all keeps own u e m = elim (t == u) as (λ b. (t == u) ≡ b → mode_in u (queue_on (if d == e then x else f.face e)) ≡ Some m → awaits (if b then y else f.core u) ≡ Some (e, m)) [
  | true ↦ λ tu. elim (d == e) as (λ c. (d == e) ≡ c → mode_in u (queue_on (if c then x else f.face e)) ≡ Some m → awaits y ≡ Some (e, m)) [
    | true ↦ λ de is. subst (λ (n : ℕ). awaits y ≡ Some (n, m)) (eqb-true d e de) (own.queued m (subst (λ (n : ℕ). mode_in n (queue_on x) ≡ Some m) (sym (eqb-true t u tu)) is))
    | false ↦ λ apart is. own.away e m apart (all.queued t e m (subst (λ (n : ℕ). mode_in n (queue_on (f.face e)) ≡ Some m) (sym (eqb-true t u tu)) is))
  ] refl
  | false ↦ λ apart. elim (d == e) as (λ c. (d == e) ≡ c → mode_in u (queue_on (if c then x else f.face e)) ≡ Some m → awaits (f.core u) ≡ Some (e, m)) [
    | true ↦ λ de is. subst (λ (n : ℕ). awaits (f.core u) ≡ Some (n, m)) (eqb-true d e de) (all.queued u d m (keeps.queued u m apart is))
    | false ↦ λ _ is. all.queued u e m is
  ] refl
] refl

pub moved : (f : Parts) (d : ℕ) (x : Part) (t : ℕ) (y : Part) → AreStanding f → Keeps t (f.face d) x → IsOwn d x t (f.core t) y → AreStanding (with_core (with_face f d x) t y)
moved f d x t y all keeps own = record {
  waits = λ u e m. moved_waits f d x t y all keeps own u e m;
  holds = λ u e m. moved_holds f d x t y all keeps own u e m;
  queued = λ u e m. moved_queued f d x t y all keeps own u e m;
  ordered = λ u. elim (t == u) as (λ b. IsOrdered (held_on (if b then y else f.core u)) (rest_on (if b then y else f.core u))) [ true ↦ own.ordered | false ↦ all.ordered u ];
}

-- A FACE ALONE, which keeps who stands there
pub faced : (f : Parts) (d : ℕ) (x : Part) → AreStanding f → is_gone_on x ≡ is_gone_on (f.face d) → standing x ≡ standing (f.face d) → queue_on x ≡ queue_on (f.face d) → AreStanding (with_face f d x)
faced f d x all gone same queue = record {
  waits = λ u e m is. elim (d == e) as (λ c. (d == e) ≡ c → is_gone_on (if c then x else f.face e) ≡ false → mode_in u (standing (if c then x else f.face e)) ≡ Some m) [
    | true ↦ λ de live. ap (mode_in u) same ∙ all.waits u d m (some_at (f.core u) d e m (eqb-true d e de) is) (sym gone ∙ live)
    | false ↦ λ _ live. all.waits u e m is live
  ] refl;
  holds = λ u e m. elim (d == e) as (λ c. (d == e) ≡ c → mode_in u (standing (if c then x else f.face e)) ≡ Some m → IsHolding (f.core u) e m) [
    | true ↦ λ de is. subst (λ (n : ℕ). IsHolding (f.core u) n m) (eqb-true d e de) (all.holds u d m (ap (mode_in u) (sym same) ∙ is))
    | false ↦ λ _ is. all.holds u e m is
  ] refl;
  queued = λ u e m. elim (d == e) as (λ c. (d == e) ≡ c → mode_in u (queue_on (if c then x else f.face e)) ≡ Some m → awaits (f.core u) ≡ Some (e, m)) [
    | true ↦ λ de is. subst (λ (n : ℕ). awaits (f.core u) ≡ Some (n, m)) (eqb-true d e de) (all.queued u d m (ap (mode_in u) (sym queue) ∙ is))
    | false ↦ λ _ is. all.queued u e m is
  ] refl;
  ordered = all.ordered;
}

-- A CORE ALONE, which has what it had
pub cored : (f : Parts) (t : ℕ) (y : Part) → AreStanding f → ((e : ℕ) (m : Mode) → awaits y ≡ Some (e, m) → awaits (f.core t) ≡ Some (e, m)) → ((e : ℕ) (m : Mode) → mode_in t (standing (f.face e)) ≡ Some m → IsHolding (f.core t) e m → IsHolding y e m)
    → ((e : ℕ) (m : Mode) → mode_in t (queue_on (f.face e)) ≡ Some m → awaits (f.core t) ≡ Some (e, m) → awaits y ≡ Some (e, m)) → IsOrdered (held_on y) (rest_on y) → AreStanding (with_core f t y)
cored f t y all wait hold away ordered = record {
  waits = λ u e m. elim (t == u) as (λ b. (t == u) ≡ b → awaits (if b then y else f.core u) ≡ Some (e, m) → is_gone_on (f.face e) ≡ false → mode_in u (standing (f.face e)) ≡ Some m) [
    | true ↦ λ tu is live. subst (λ (n : ℕ). mode_in n (standing (f.face e)) ≡ Some m) (eqb-true t u tu) (all.waits t e m (wait e m is) live)
    | false ↦ λ _ is live. all.waits u e m is live
  ] refl;
  holds = λ u e m. elim (t == u) as (λ b. (t == u) ≡ b → mode_in u (standing (f.face e)) ≡ Some m → IsHolding (if b then y else f.core u) e m) [
    | true ↦ λ tu is. let own : mode_in t (standing (f.face e)) ≡ Some m = subst (λ (n : ℕ). mode_in n (standing (f.face e)) ≡ Some m) (sym (eqb-true t u tu)) is in hold e m own (all.holds t e m own)
    | false ↦ λ _ is. all.holds u e m is
  ] refl;
  queued = λ u e m. elim (t == u) as (λ b. (t == u) ≡ b → mode_in u (queue_on (f.face e)) ≡ Some m → awaits (if b then y else f.core u) ≡ Some (e, m)) [
    | true ↦ λ tu is. let own : mode_in t (queue_on (f.face e)) ≡ Some m = subst (λ (n : ℕ). mode_in n (queue_on (f.face e)) ≡ Some m) (sym (eqb-true t u tu)) is in away e m own (all.queued t e m own)
    | false ↦ λ _ is. all.queued u e m is
  ] refl;
  ordered = λ u. elim (t == u) as (λ b. IsOrdered (held_on (if b then y else f.core u)) (rest_on (if b then y else f.core u))) [ true ↦ ordered | false ↦ all.ordered u ];
}
