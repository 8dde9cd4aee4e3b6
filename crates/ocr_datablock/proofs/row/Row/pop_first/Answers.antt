use Rattle.std.proofs.Common.{◌≡◌, ◌-◌, ◌∷◌, ℕ, length, take, drop, Some, ◌∙◌, ap, sym, subst}
use Rattle.std.specs.Prelude.{reverse}
use Rattle.ocr_acquire.specs.declared.Mode.{Mode}
use Rattle.ocr_acquire.specs.Mode.{mode_in}
use Rattle.ocr_datablock.specs.Block.{without}
use Rattle.ocr_datablock.specs.Steps.{StandOnce}
use Rattle.ocr_datablock.proofs.Lines.{without_first, mode_first}
use Rattle.ocr_datablock.proofs.Tallies.{counts_one}
use Rattle.ocr_datablock.proofs.Rows.{first_named, none_named}
use Rattle.ocr_datablock.proofs.row.Row.pop_first.Goals as goal

pub minus-self-inside-requires : goal.minus-self-inside-requires
minus-self-inside-requires c =
    let es = c.self.inside.cache.entries in
    let one : ℕ × Mode = (c.in-Some.number, c.in-Some.mode) in
    let shape = first_named es one (sym c.in-Some.ensures.value) in
    let found : mode_in one.0 (reverse es) ≡ Some one.1 = ap (mode_in one.0) shape ∙ mode_first one (reverse (take (length es - 1) es)) in
    counts_one c.self.inside.tally (reverse es) one.0 one.1 c.self.invariant.2 c.self.invariant.1 found

pub invariant_of-self : goal.invariant_of-self
invariant_of-self c =
    let es = c.self.inside.cache.entries in
    let one : ℕ × Mode = (c.in-Some.number, c.in-Some.mode) in
    let rest = reverse (take (length es - 1) es) in
    let shape = first_named es one (sym c.in-Some.ensures.value) in
    let found : mode_in one.0 (reverse es) ≡ Some one.1 = ap (mode_in one.0) shape ∙ mode_first one rest in
    let once : StandOnce (one ∷ rest) = subst StandOnce shape c.self.invariant.1 in
    let left : without one.0 (reverse es) ≡ rest = ap (without one.0) shape ∙ without_first one rest once.0 in
    let now : reverse c.pop_lru.new.self.entries ≡ rest = ap (λ cache. reverse cache.entries) c.pop_lru.ensures.entries in
    let told = c.minus-self-inside.ensures.tells (reverse es) c.self.invariant.2 c.self.invariant.1 found in
    (ap (λ cache. cache.cap) c.pop_lru.ensures.entries ∙ c.self.invariant.0, rw now once.1, rw now (rw left at told))

pub invariant_of-self-in_default : goal.invariant_of-self-in_default
invariant_of-self-in_default c =
    let es = c.self.inside.cache.entries in
    let none = none_named es (sym c.pop_lru.ensures.value ∙ c.in_default.is) in
    let now : reverse c.pop_lru.new.self.entries ≡ reverse es = ap (λ cache. reverse cache.entries) c.pop_lru.ensures.entries ∙ none.1 ∙ sym none.0 in
    (ap (λ cache. cache.cap) c.pop_lru.ensures.entries ∙ c.self.invariant.0, rw now c.self.invariant.1, rw now c.self.invariant.2)

pub returns-in-Some : goal.returns-in-Some
returns-in-Some c =
    let es = c.self.inside.cache.entries in
    let one : ℕ × Mode = (c.in-Some.number, c.in-Some.mode) in
    let shape = first_named es one (sym c.in-Some.ensures.value) in
    ap (λ cache. reverse cache.entries) c.pop_lru.ensures.entries ∙ sym (ap (drop 1) (sym c.self.view_is ∙ shape))

pub returns-in_default : goal.returns-in_default
returns-in_default c =
    let es = c.self.inside.cache.entries in
    let none = none_named es (sym c.pop_lru.ensures.value ∙ c.in_default.is) in
    ap (λ cache. reverse cache.entries) c.pop_lru.ensures.entries ∙ none.1 ∙ sym (ap (drop 1) (sym c.self.view_is ∙ none.0))
