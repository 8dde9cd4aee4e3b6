-- A scope has room for one member more as long as a number is left: each creation that brings a
-- member takes a number.
use Rattle.std.proofs.Common.{◌≡◌, ℕ, suc, ◌+◌, ◌<◌, ◌≤◌, List, [], ◌∷◌, Bool, true, false, not, ◌&&◌, ◌||◌, ◌==◌, if◌then◌else◌, Option, Some, None, refl, sym, ◌∙◌, ap, arith}
use Rattle.std.proofs.lemmas.Bool.{and_parts}
use Rattle.ocr_base.proofs.Booleans.{same, and_false}
use Rattle.ocr_edt.specs.declared.Identity.{Identity}
use Rattle.ocr_finish.specs.declared.TheConstants.{MOST_MEMBERS}
use Rattle.ocr_finish.specs.Scope.{ScopeCall, State, state_of}
use Rattle.ocr_finish.specs.Scope as scope
use Rattle.ocr_body_meaning.specs.Holds.{is_done}
use Rattle.ocr_body_meaning.specs.declared.call.Call as body
use Rattle.ocr_body_meaning.specs.declared.call.Call.TheVariants as call
use Rattle.ocr_body_meaning.specs.declared.call.Answer.{Answer}
use Rattle.ocr_machine_history.specs.declared.entry.Entry.{Entry}
use Rattle.ocr_machine_history.specs.declared.entry.Entry.TheVariants.{Call, Deliver}
use Rattle.ocr_machine_history.specs.declared.entry.What.{What}
use Rattle.ocr_machine_history.specs.declared.entry.What.TheVariants as what
use Rattle.ocr_machine_history.specs.History.{History, Setting}
use Rattle.ocr_machine_history.specs.Made.{Made, MadeScope, made, makes, names_new, is_new, is_edt, is_edt_made}
use Rattle.ocr_machine_parts.specs.declared.part.Part.{Part}
use Rattle.ocr_machine_parts.specs.declared.part.Part.TheVariants as part
use Rattle.ocr_machine_parts.specs.Calls.{leave_step, scope_calls}
use Rattle.ocr_machine_parts.specs.Parts.{identity_of, parts_of}
use Rattle.ocr_machine_parts.specs.Kinds.{home_on}
use Rattle.ocr_machine_parts.specs.LegalOn.{IsJoinable, IsCallOn}
use Rattle.ocr_machine_parts.specs.Legal.{IsRun, IsLegal}
use Rattle.ocr_machine_parts.proofs.Fresh.{new_fresh, made_old}
use Rattle.ocr_machine_parts.proofs.Within.{made_none}
use Rattle.ocr_machine_laws.specs.Members.{how_many, numbers, is_member_edt, members_on, JoiningLaw}
use Rattle.ocr_machine_laws.proofs.Edts.{edts_law}
use Rattle.ocr_machine_laws.proofs.Counts.{one, in_many, less_many, fewer_many, most_many}
use Rattle.ocr_machine_laws.proofs.Scopes.{scope_in, scope_at, members_in, members_are, call_scopes, joined, edt_scopes}
use Rattle.ocr_machine_laws.proofs.Members.{none_gone, opened_scopes, running_below, running_identity, running_member, members_law}

-- NUMBERS that nothing has
abbrev is_nothing : Option Made → Bool
is_nothing None = true
is_nothing (Some m) = false

abbrev is_free : Setting → History → ℕ → Bool
is_free s past g = not (g == 0) && is_nothing (made s past g)

abbrev free : Setting → History → ℕ
free s past = how_many (λ g. is_free s past g) (suc s.limit)

-- each entry adds at most so many members to a scope, and takes as many numbers
abbrev more : Entry → ℕ
more (Call u home (call.EdtCreate from pc ps dc ds fl o) a w) = one (is_done a.code)
more other = 0

joined_most : (o : Option State) → members_in (joined o) ≤ members_in o + 1
joined_most None = omega arith
joined_most (Some st) = omega arith

edt_most : (done own home : Bool) (o : Option State) (outer event : ℕ) → members_in (if done && own then Some (state_of outer event []) else if done && home then joined o else o) ≤ members_in o + one done
edt_most true true home o outer event = omega arith
edt_most true false true o outer event = joined_most o
edt_most true false false o outer event = omega arith
edt_most false own home o outer event = omega arith

left_most : (w : What) (done : Bool) (g : ℕ) (m : Option Made) (calls : List ScopeCall) → members_in (scope_in m (leave_step w done g calls)) ≤ members_in (scope_in m calls)
left_most (what.Leave y) done g m calls = elim (done && (y == g)) as (λ b. members_in (scope_in m (if b then scope.Parting ∷ calls else calls)) ≤ members_in (scope_in m calls)) [
  | true ↦ parted m calls
  | false ↦ omega arith
]
  where
    parted : (m : Option Made) (calls : List ScopeCall) → members_in (scope_in m (scope.Parting ∷ calls)) ≤ members_in (scope_in m calls)
    parted (Some (MadeScope outer event)) calls = omega arith
    parted other calls = omega arith
left_most other done g m calls = omega arith

members_most : (s : Setting) (past : History) (e : Entry) (x : ℕ) → IsLegal s past e → members_in (scope_at s (e ∷ past) x) ≤ members_in (scope_at s past x) + more e
members_most s past (Call u home (call.EdtCreate from pc ps dc ds fl o) a w) x legal =
    let now : members_in (scope_at s (Call u home (call.EdtCreate from pc ps dc ds fl o) a w ∷ past) x) ≡ _ = ap members_in (edt_scopes s past u home from pc dc fl ps ds o a w legal.on_parts x) in
    let most = edt_most (is_done a.code) (names_new a.scope x) (names_new home x) (scope_at s past x) home a.output in
    omega (arith, now, most)
members_most s past (Call u home other a w) x legal = let now : members_in (scope_at s (Call u home other a w ∷ past) x) ≡ members_in (scope_at s past x) = ap members_in (call_scopes s past u home other a w refl legal.on_parts x) in omega (arith, now)
members_most s past (Deliver m c) x legal = let most = left_most m.what (is_done c) x (made s past x) (scope_calls past x) in omega (arith, most)
members_most s past other x legal = omega arith

-- what nothing has then, nothing had before
still_free : (s : Setting) (past : History) (u home : ℕ) (c : body.Call) (a : Answer) (w : List (ℕ × ℕ)) (g : ℕ) → IsCallOn s.limit (parts_of s past) u home c a w → is_free s (Call u home c a w ∷ past) g ≡ true → is_free s past g ≡ true
still_free s past u home c a w g legal is = elim (is_new c a g) as (λ b. is_new c a g ≡ b → is_free s past g ≡ true) [
  | true ↦ λ new.
      let some : not (g == 0) ≡ true = (and_parts (not (g == 0)) (is_nothing (made s (Call u home c a w ∷ past) g)) is).0 in
      let none = made_none s past g (new_fresh s.limit (parts_of s past) u home c a w g legal new).vacant in
      rw (some, none) refl
  | false ↦ λ old. ap (λ (m : Option Made). not (g == 0) && is_nothing m) (sym (made_old s past u home c a w g old)) ∙ is
] refl

edt_there : (m : Option Made) (n : ℕ) → is_edt_made m ≡ true → (not (n == 0) && is_nothing m) ≡ false
edt_there None n is = cc is
edt_there (Some m) n is = and_false (not (n == 0))

free_less : (s : Setting) (past : History) (e : Entry) → IsRun s past → IsLegal s past e → free s (e ∷ past) + more e ≤ free s past
free_less s past (Call u home (call.EdtCreate from pc ps dc ds fl o) a w) run legal =
    let after : ℕ → Bool = λ g. is_free s (Call u home (call.EdtCreate from pc ps dc ds fl o) a w ∷ past) g in
    let before : ℕ → Bool = λ g. is_free s past g in
    let still : (g : ℕ) → after g ≡ true → before g ≡ true = λ g is. still_free s past u home (call.EdtCreate from pc ps dc ds fl o) a w g legal.on_parts is in
    elim (is_done a.code) as (λ b. is_done a.code ≡ b → how_many after (suc s.limit) + one b ≤ how_many before (suc s.limit)) [
      | true ↦ λ on.
          let fresh = legal.on_parts.value.named.fresh on in
          let within = fresh.within in
          let new : makes a a.value ≡ true = rw (on, same a.value) refl in
          let edt : is_edt_made (made s (Call u home (call.EdtCreate from pc ps dc ds fl o) a w ∷ past) a.value) ≡ true =
          edts_law s (Call u home (call.EdtCreate from pc ps dc ds fl o) a w ∷ past) (run, legal) a.value ∙ ap (λ (b : Bool). b || is_edt past a.value) new in
          let was : before a.value ≡ true = rw (none_gone a.value fresh.some, made_none s past a.value fresh.vacant) refl in
          fewer_many after before a.value (suc s.limit) (omega (arith, within)) still (edt_there _ a.value edt) was
      | false ↦ λ _. let less = less_many after before (suc s.limit) still in omega (arith, less)
    ] refl
free_less s past (Call u home other a w) run legal =
    let less = less_many (λ g. is_free s (Call u home other a w ∷ past) g) (λ g. is_free s past g) (suc s.limit) (λ g is. still_free s past u home other a w g legal.on_parts is) in
    omega (arith, less)
free_less s past other run legal = omega arith

-- so the members and the numbers that are left are no more than the limit
room : (s : Setting) (past : History) (x : ℕ) → IsRun s past → members_in (scope_at s past x) + free s past ≤ s.limit
room s [] x run =
    let members : members_in (scope_at s [] x) ≡ 0 = ap members_in (opened_scopes s x) in
    let most = most_many (λ g. is_free s [] g) s.limit refl in
    omega (arith, members, most)
room s (e ∷ past) x run =
    let before = room s past x run.0 in
    let members = members_most s past e x run.1 in
    let less = free_less s past e run.0 run.1 in
    omega (arith, before, members, less)

-- THE HOME of a running EDT can be joined
can_join : (y : Part) → 1 ≤ members_on y → members_on y < MOST_MEMBERS → IsJoinable y
can_join (part.Scope st) some most = (some, most)
can_join other some most = absurd (omega (arith, some))

pub joining_law : JoiningLaw
joining_law s past t g run enough is off fresh =
    let home : ℕ = home_on ((parts_of s past).core t) in
    let own : names_new (identity_of past t).scope home ≡ true = ap (λ (i : Identity). names_new i.scope home) (sym (running_identity s past t run is)) ∙ rw (off, same home) refl in
    let member = in_many (λ u. is_member_edt past home u) t (numbers s) (running_below s past t run is) (running_member s past t run is home ∙ own) in
    let count = members_law s past home run in
    let members = members_are s past home in
    let within = fresh.within in
    let is_left : is_free s past g ≡ true = rw (none_gone g fresh.some, made_none s past g fresh.vacant) refl in
    let left = in_many (λ n. is_free s past n) g (suc s.limit) (omega (arith, within)) is_left in
    let most = room s past home run in
    can_join ((parts_of s past).face home) (omega (arith, member, count)) (omega (arith, members, most, left, enough))
