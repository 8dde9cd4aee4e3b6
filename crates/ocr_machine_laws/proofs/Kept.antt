-- What rests on the parts that are kept.
use Rattle.std.proofs.Common.{◌≡◌, ℕ, ◌+◌, ◌-◌, ◌≤◌, List, [], ◌∷◌, Bool, true, false, ◌||◌, ◌==◌, if◌then◌else◌, refl, sym, ◌∙◌, ap, subst, arith}
use Rattle.std.proofs.lemmas.Grind.{common_steps}
use Rattle.std.proofs.lemmas.Bool.{eqb-true}
use Rattle.ocr_acquire.specs.declared.Mode.{Mode}
use Rattle.ocr_machine_history.specs.declared.entry.Entry.{Entry}
use Rattle.ocr_machine_history.specs.declared.entry.Entry.TheVariants.{Call, Acquire, Wait, Start, Free, End, StaleAcquire}
use Rattle.ocr_machine_history.specs.History.{History, Setting}
use Rattle.ocr_machine_parts.specs.declared.part.Part.{Part}
use Rattle.ocr_machine_parts.specs.declared.part.Part.TheVariants as part
use Rattle.ocr_machine_parts.specs.Calls.{plan_of}
use Rattle.ocr_machine_parts.specs.Parts.{Parts, parts_of}
use Rattle.ocr_machine_parts.specs.Taken.{look, has, keys, parts_in, as_face, as_core, is_within, IsWithin, ArePartsOf}
use Rattle.ocr_machine_parts.specs.Kinds.{on_core, is_running, is_acquiring}
use Rattle.ocr_machine_parts.specs.Effects.{changed, settled, settled_parts}
use Rattle.ocr_machine_parts.specs.Progress.{readied, readied_on, ready_at, with_phase, made_ready}
use Rattle.ocr_machine_parts.specs.LegalOn.{IsLegalOn}
use Rattle.ocr_machine_parts.specs.Legal.{IsRun}
use Rattle.ocr_machine_parts.specs.Footprint.{on_face, on_core_of, is_touched, Covers, IsAlike}
use Rattle.ocr_machine_parts.proofs.After.{after_law}
use Rattle.ocr_machine_parts.proofs.Keeps.{frame_law}
use Rattle.ocr_machine_parts.proofs.Local.{effect_law, legality_law, settled_legal_law}
use Rattle.ocr_machine_parts.proofs.Settled.{settled_law, settled_if}
use Rattle.ocr_machine_parts.proofs.Within.{within_law}
use Rattle.ocr_machine_parts.proofs.Choices.{chosen, left}
use Rattle.ocr_machine_laws.specs.Kept.{IsPlanFor, KeptLaw, BackLaw, AfterKeptLaw, UntouchedLaw, OwnCoreLaw}
use Rattle.ocr_base.proofs.Booleans.{same}

pub within_core : (limit u : ℕ) → is_within limit u ≡ true → (is_within limit (limit + u) ≡ false) × ((limit + u) - limit ≡ u)
within_core limit u is = (grind (arith, common_steps), omega arith)

-- THE PARTS ARE ALIKE where the entry looks
pub alike_kept : (limit : ℕ) (e : Entry) (f : Parts) (ps : List (ℕ × Part)) → IsWithin limit f → Covers limit e ps → ArePartsOf limit f ps → IsAlike e f (settled_parts (parts_in limit ps))
alike_kept limit e f ps within covers are = record {
  faces = λ g on. elim (is_within limit g) as (λ b. is_within limit g ≡ b → f.face g ≡ (if b then as_face (look ps g) else part.Vacant)) [
    | true ↦ λ is. let here : is_touched limit e g ≡ true = rw is on in let a = are g (covers g here) in rw is at a
    | false ↦ λ off. within.faces g off
  ] refl;
  cores = λ u on. elim (is_within limit u) as (λ b. is_within limit u ≡ b → f.core u ≡ settled (if b then as_core (look ps (limit + u)) else part.Vacant)) [
    | true ↦ λ is.
        let w = within_core limit u is in
        let here : is_touched limit e (limit + u) ≡ true = rw (w.0, w.1, is) on in
        let a = are (limit + u) (covers (limit + u) here) in rw (w.0, w.1, is) at a
    | false ↦ λ off. within.cores u off
  ] refl;
}

-- MADE READY
ready_alike : (e : Entry) (f h : Parts) (t : ℕ) (ms : List (ℕ × Mode)) → on_core_of e t ≡ true → IsAlike e f h → IsAlike e (ready_at t ms f) (ready_at t ms h)
ready_alike e f h t ms here alike = record {
  faces = alike.faces;
  cores = λ u on. chosen (t == u) _ _ _ _ (ap (λ (x : Part). on_core x (with_phase (made_ready ms))) (alike.cores t here)) (alike.cores u on);
}

pub readied_alike : (ms : List (ℕ × Mode)) (e : Entry) (f h : Parts) → IsAlike e f h → IsAlike e (readied ms e f) (readied ms e h)
readied_alike ms (Acquire t d) f h alike = ready_alike (Acquire t d) f h t ms (same t) alike
readied_alike ms (Wait t d) f h alike = ready_alike (Wait t d) f h t ms (same t) alike
readied_alike ms (StaleAcquire t d) f h alike = ready_alike (StaleAcquire t d) f h t ms (same t) alike
readied_alike ms (Start t) f h alike = ready_alike (Start t) f h t ms (same t) alike
readied_alike ms other f h alike = alike

settled_phase : (x : Part) (ms : List (ℕ × Mode)) → settled (on_core x (with_phase (made_ready ms))) ≡ on_core (settled x) (with_phase (made_ready ms))
settled_phase (part.Core c) ms = refl
settled_phase other ms = refl

ready_settled : (t : ℕ) (ms : List (ℕ × Mode)) (f : Parts) → settled_parts (ready_at t ms f) ≡ ready_at t ms (settled_parts f)
ready_settled t ms f = λ i. record {
  face = f.face;
  core = λ u. (settled_if (t == u) (on_core (f.core t) (with_phase (made_ready ms))) (f.core u) ∙ ap (λ (x : Part). if t == u then x else settled (f.core u)) (settled_phase (f.core t) ms)) i;
}

readied_settled : (ms : List (ℕ × Mode)) (e : Entry) (f : Parts) → settled_parts (readied ms e f) ≡ readied ms e (settled_parts f)
readied_settled ms (Acquire t d) f = ready_settled t ms f
readied_settled ms (Wait t d) f = ready_settled t ms f
readied_settled ms (StaleAcquire t d) f = ready_settled t ms f
readied_settled ms (Start t) f = ready_settled t ms f
readied_settled ms other f = refl

pub readied_is : (s : Setting) (past : History) (e : Entry) (ms : List (ℕ × Mode)) (f : Parts) → IsPlanFor s past e ms → readied_on s past e f ≡ readied ms e f
readied_is s past (Acquire t d) ms f is = ap (λ (l : List (ℕ × Mode)). ready_at t l f) (is tt)
readied_is s past (Wait t d) ms f is = ap (λ (l : List (ℕ × Mode)). ready_at t l f) (is tt)
readied_is s past (StaleAcquire t d) ms f is = ap (λ (l : List (ℕ × Mode)). ready_at t l f) (is tt)
readied_is s past (Start t) ms f is = ap (λ (l : List (ℕ × Mode)). ready_at t l f) (is tt)
readied_is s past other ms f is = refl

turned : (e : Entry) (f h : Parts) → IsAlike e f h → IsAlike e h f
turned e f h alike = record { faces = λ g on. sym (alike.faces g on); cores = λ u on. sym (alike.cores u on) }

pub kept_law : KeptLaw
kept_law s past e ps ms kept legal =
    let f = parts_of s past in let h = parts_in s.limit ps in
    let alike = readied_alike ms e f (settled_parts h) (alike_kept s.limit e f ps (within_law s past kept.enough kept.run) kept.covers kept.parts) in
    let on_settled : IsLegalOn s.limit (settled_parts (readied ms e h)) e = (settled_legal_law s.limit e (readied ms e h)).0 legal in
    subst (λ (x : Parts). IsLegalOn s.limit x e) (sym (readied_is s past e ms f kept.plan))
    (legality_law s.limit e (readied ms e (settled_parts h)) (readied ms e f) (turned e (readied ms e f) (readied ms e (settled_parts h)) alike)
    (subst (λ (x : Parts). IsLegalOn s.limit x e) (readied_settled ms e h) on_settled))

pub back_law : BackLaw
back_law s past e ps ms kept legal =
    let f = parts_of s past in let h = parts_in s.limit ps in
    let alike = readied_alike ms e f (settled_parts h) (alike_kept s.limit e f ps (within_law s past kept.enough kept.run) kept.covers kept.parts) in
    (settled_legal_law s.limit e (readied ms e h)).1
    (subst (λ (x : Parts). IsLegalOn s.limit x e) (sym (readied_settled ms e h))
    (legality_law s.limit e (readied ms e f) (readied ms e (settled_parts h)) alike
    (subst (λ (x : Parts). IsLegalOn s.limit x e) (readied_is s past e ms f kept.plan) legal)))

-- AFTER IT
readied_face : (ms : List (ℕ × Mode)) (e : Entry) (f : Parts) (g : ℕ) → (readied ms e f).face g ≡ f.face g
readied_face ms (Acquire t d) f g = refl
readied_face ms (Wait t d) f g = refl
readied_face ms (StaleAcquire t d) f g = refl
readied_face ms (Start t) f g = refl
readied_face ms other f g = refl

ready_off : (t u : ℕ) (ms : List (ℕ × Mode)) (f : Parts) → (t == u) ≡ false → (ready_at t ms f).core u ≡ f.core u
ready_off t u ms f off = rw off refl

readied_core : (ms : List (ℕ × Mode)) (e : Entry) (f : Parts) (u : ℕ) → on_core_of e u ≡ false → (readied ms e f).core u ≡ f.core u
readied_core ms (Acquire t d) f u off = ready_off t u ms f off
readied_core ms (Wait t d) f u off = ready_off t u ms f off
readied_core ms (StaleAcquire t d) f u off = ready_off t u ms f off
readied_core ms (Start t) f u off = ready_off t u ms f off
readied_core ms other f u off = refl

pub after_kept_law : AfterKeptLaw
after_kept_law s past e ps later ms kept legal is same_keys = λ n here.
    let limit = s.limit in
    let f = parts_of s past in
    let h = parts_in limit ps in
    let h1 = settled_parts h in
    let alike = readied_alike ms e f h1 (alike_kept limit e f ps (within_law s past kept.enough kept.run) kept.covers kept.parts) in
    let effect = (effect_law e (readied ms e f) (readied ms e h1) alike).0 in
    let was : has ps n ≡ true = has_keys_of later ps n same_keys here in
    let now : parts_of s (e ∷ past) ≡ changed e (readied ms e f) = after_law s past e kept.run legal ∙ ap (changed e) (readied_is s past e ms f kept.plan) in
    let made : changed e (readied ms e h1) ≡ settled_parts (parts_in limit later) =
    sym (ap settled_parts is ∙ (settled_law e (readied ms e h) ∙ ap (changed e) (readied_settled ms e h))) in
    let old = kept.parts n was in
    elim (is_within limit n) as (λ b. is_within limit n ≡ b → (if b then (parts_of s (e ∷ past)).face n else if is_within limit (n - limit) then (parts_of s (e ∷ past)).core (n - limit) else part.Vacant) ≡ (if b then as_face (look later n) else if is_within limit (n - limit) then settled (as_core (look later n)) else part.Vacant)) [
      | true ↦ λ in_it.
          let new : (changed e (readied ms e h1)).face n ≡ as_face (look later n) = ap (λ (x : Parts). x.face n) made ∙ rw in_it refl in
          let old_face : f.face n ≡ h1.face n = rw in_it (rw in_it at old) in
          ap (λ (x : Parts). x.face n) now
          ∙ elim (on_face e n) as (λ b. on_face e n ≡ b → (changed e (readied ms e f)).face n ≡ as_face (look later n)) [
            | true ↦ λ on. effect.faces n on ∙ new
            | false ↦ λ off. (frame_law e (readied ms e f)).faces n off ∙ (readied_face ms e f n ∙ (old_face ∙ (sym (readied_face ms e h1 n) ∙ (sym ((frame_law e (readied ms e h1)).faces n off) ∙ new))))
          ] refl
      | false ↦ λ out. elim (is_within limit (n - limit)) as (λ b. is_within limit (n - limit) ≡ b → (if b then (parts_of s (e ∷ past)).core (n - limit) else part.Vacant) ≡ (if b then settled (as_core (look later n)) else part.Vacant)) [
        | true ↦ λ in_it.
            let u : ℕ = n - limit in
            let back : limit + u ≡ n = back_again limit n in_it in
            let new : (changed e (readied ms e h1)).core u ≡ settled (as_core (look later n)) = ap (λ (x : Parts). x.core u) made ∙ rw in_it (ap (λ (k : ℕ). settled (as_core (look later k))) back) in
            let old_core : f.core u ≡ h1.core u = rw in_it (rw (out, in_it) at old ∙ ap (λ (k : ℕ). settled (as_core (look ps k))) (sym back)) in
            ap (λ (x : Parts). x.core u) now
            ∙ elim (on_core_of e u) as (λ b. on_core_of e u ≡ b → (changed e (readied ms e f)).core u ≡ settled (as_core (look later n))) [
              | true ↦ λ on. effect.cores u on ∙ new
              | false ↦ λ off. (frame_law e (readied ms e f)).cores u off ∙ (readied_core ms e f u off ∙ (old_core ∙ (sym (readied_core ms e h1 u off) ∙ (sym ((frame_law e (readied ms e h1)).cores u off) ∙ new))))
            ] refl
        | false ↦ λ off. refl
      ] refl
    ] refl
  where
    back_again : (limit n : ℕ) → is_within limit (n - limit) ≡ true → limit + (n - limit) ≡ n
    back_again limit n is = grind (arith, common_steps)

    has_keys_of : (later ps : List (ℕ × Part)) (n : ℕ) → keys later ≡ keys ps → has later n ≡ true → has ps n ≡ true
    has_keys_of [] [] n same here = here
    has_keys_of [] (p ∷ ps) n same here = cc here
    has_keys_of (l ∷ ls) [] n same here = cc same
    has_keys_of (l ∷ ls) (p ∷ ps) n same here =
        let h : l.0 ≡ p.0 = cc same in let t : keys ls ≡ keys ps = cc same in
        elim (l.0 == n) as (λ b. (l.0 == n) ≡ b → (b || has ls n) ≡ true → ((p.0 == n) || has ps n) ≡ true) [
          | true ↦ λ e _. let f : (p.0 == n) ≡ true = ap (λ (k : ℕ). k == n) (sym h) ∙ e in rw f refl
          | false ↦ λ e on. let f : (p.0 == n) ≡ false = ap (λ (k : ℕ). k == n) (sym h) ∙ e in rw f (has_keys_of ls ps n t on)
        ] refl here

-- AN UNTOUCHED PLACE
pub untouched_law : UntouchedLaw
untouched_law s past e p enough run legal out =
    let limit = s.limit in let f = parts_of s past in let r = readied_on s past e f in
    let now = after_law s past e run legal in
    elim (is_within limit p) as (λ b. is_within limit p ≡ b → (if b then (parts_of s (e ∷ past)).face p else if is_within limit (p - limit) then (parts_of s (e ∷ past)).core (p - limit) else part.Vacant)
    ≡ (if b then f.face p else if is_within limit (p - limit) then f.core (p - limit) else part.Vacant)) [
      | true ↦ λ in_it. let off : on_face e p ≡ false = rw in_it at out in ap (λ (x : Parts). x.face p) now ∙ ((frame_law e r).faces p off ∙ on_face_same s past e f p)
      | false ↦ λ is_out. elim (is_within limit (p - limit)) as (λ b. is_within limit (p - limit) ≡ b → (if b then (parts_of s (e ∷ past)).core (p - limit) else part.Vacant) ≡ (if b then f.core (p - limit) else part.Vacant)) [
        | true ↦ λ in_it. let off : on_core_of e (p - limit) ≡ false = rw (is_out, in_it) at out in ap (λ (x : Parts). x.core (p - limit)) now ∙ ((frame_law e r).cores (p - limit) off ∙ core_same s past e f (p - limit) off)
        | false ↦ λ off. refl
      ] refl
    ] refl
  where
    on_face_same : (s : Setting) (past : History) (e : Entry) (f : Parts) (g : ℕ) → (readied_on s past e f).face g ≡ f.face g
    on_face_same s past (Acquire t d) f g = refl
    on_face_same s past (Wait t d) f g = refl
    on_face_same s past (StaleAcquire t d) f g = refl
    on_face_same s past (Start t) f g = refl
    on_face_same s past other f g = refl

    core_same : (s : Setting) (past : History) (e : Entry) (f : Parts) (u : ℕ) → on_core_of e u ≡ false → (readied_on s past e f).core u ≡ f.core u
    core_same s past (Acquire t d) f u off = ready_off t u (plan_of s past t) f off
    core_same s past (Wait t d) f u off = ready_off t u (plan_of s past t) f off
    core_same s past (StaleAcquire t d) f u off = ready_off t u (plan_of s past t) f off
    core_same s past (Start t) f u off = ready_off t u (plan_of s past t) f off
    core_same s past other f u off = refl

-- THE CORE of an EDT is among the places of its own entries
own_in : (s : Setting) (past : History) (e : Entry) (u t : ℕ) (test : Part → Bool) (x : Part) → 2 ≤ s.limit → IsRun s past → (u == t) ≡ true → test part.Vacant ≡ false → ((parts_of s past).core u ≡ part.Vacant → x ≡ part.Vacant) → test x ≡ true
    → on_core_of e u ≡ true → is_touched s.limit e (s.limit + t) ≡ true
own_in s past e u t test x enough run same_n vacant none is on =
    subst (λ (k : ℕ). is_touched s.limit e (s.limit + k) ≡ true) (eqb-true u t same_n)
    (elim (is_within s.limit u) as (λ b. is_within s.limit u ≡ b → is_touched s.limit e (s.limit + u) ≡ true) [
      | true ↦ λ in_it. let w = within_core s.limit u in_it in rw (w.0, w.1, in_it, on) refl
      | false ↦ λ off. let no : x ≡ part.Vacant = none ((within_law s past enough run).cores u off) in let wrong = ap test no in cc (wrong, vacant, is)
    ] refl)

ready_vacant : (s : Setting) (past : History) (u : ℕ) (f : Parts) → f.core u ≡ part.Vacant → (ready_at u (plan_of s past u) f).core u ≡ part.Vacant
ready_vacant s past u f is = rw (same u) (ap (λ (x : Part). on_core x (with_phase (made_ready (plan_of s past u)))) is)

pub own_core_law : OwnCoreLaw
own_core_law s past (Call u home c a w) t enough run legal is = own_in s past (Call u home c a w) u t is_running ((parts_of s past).core u) enough run is refl (λ v. v) legal.on_parts.running (left u _)
own_core_law s past (Start u) t enough run legal is = own_in s past (Start u) u t is_acquiring ((readied_on s past (Start u) (parts_of s past)).core u) enough run is refl (ready_vacant s past u (parts_of s past)) legal.on_parts.acquiring (same u)
own_core_law s past (Free u d w) t enough run legal is = own_in s past (Free u d w) u t is_running ((parts_of s past).core u) enough run is refl (λ v. v) legal.on_parts.running (same u)
own_core_law s past (End u g) t enough run legal is = own_in s past (End u g) u t is_running ((parts_of s past).core u) enough run is refl (λ v. v) legal.on_parts.running (same u)
own_core_law s past other t enough run legal is = cc is
