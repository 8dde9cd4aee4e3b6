-- Clerks of the toy that are made and come home.
use Rattle.std.proofs.Common.{◌≡◌, ℕ, ◌+◌, ◌-◌, ◌≤◌, [], ap, ◌∙◌, arith}
use Rattle.atomic_table.specs.Seated.{TableId}
use Rattle.ocr_turns_rule.specs.Live.{raising}
use Rattle.ocr_turns_rule.specs.Steps.{fresh_spare, gathered, parted_spare}
use Rattle.ocr_turns_rule.specs.declared.view.Terms.{Terms}
use Rattle.ocr_tests_turns.specs.Clerks.{Hand, HasUnit, IsIdle, IsRoot}

pub hired : (t : TableId × Terms ℕ) (root clerk : Hand) (n : ℕ) → IsRoot t root n → clerk.table ≡ root.table → clerk.view ≡ fresh_spare root.view → clerk.parts ≡ [] → 1 ≤ clerk.room → 64 ≤ clerk.spare → IsIdle t clerk
hired t root clerk n is table view parts room spare = record {
  limit = is.limit;
  out = ((table ∙ is.of.0, ap (λ v. v.terms) view ∙ is.of.1), ap (λ v. v.root) view);
  hand = parts;
  parts = ap (λ v. v.parts) view;
  claims = ap (λ v. v.claims) view;
  spare = omega (arith, spare);
  room = room;
  pays = (let one = ap (λ v. v.spares) view in omega arith);
  raised = omega (arith, ap (λ v. v.raised) view);
}

pub hires : (t : TableId × Terms ℕ) (root after : Hand) (n : ℕ) → IsRoot t root n → after.table ≡ root.table → after.view ≡ parted_spare root.view → IsRoot t after (n + 1)
hires t root after n is table view = record {
  limit = is.limit;
  of = (table ∙ is.of.0, ap (λ v. v.terms) view ∙ is.of.1);
  root = ap (λ v. v.root) view ∙ is.root;
  out = ap (λ v. v.out) view ∙ ap (λ x. x + 1) is.out;
}

pub gathers : (t : TableId × Terms ℕ) (root clerk after : Hand) (n m : ℕ) → IsRoot t root n → after.table ≡ root.table → after.view ≡ gathered root.view clerk.view → n ≡ m + 1 → IsRoot t after m
gathers t root clerk after n m is table view less = record {
  limit = is.limit;
  of = (table ∙ is.of.0, ap (λ v. v.terms) view ∙ is.of.1);
  root = ap (λ v. v.root) view ∙ is.root;
  out = ap (λ v. v.out) view ∙ (ap (λ x. x - 1) is.out ∙ omega (arith, less));
}

-- it raised one unit, and gave one to the new clerk
pub stays : (root after : Hand) (n : ℕ) → HasUnit root n → after.view ≡ parted_spare (raising root.view 1) → HasUnit after (n + 1)
stays root after n has view = record {
  spares = ap (λ v. v.spares) view ∙ (let one = has.spares in omega arith);
  raised = ap (λ v. v.raised) view ∙ ap (λ x. x + 1) has.raised;
  goes = ap (λ v. v.ended) view ∙ has.goes;
}

pub raises : (t : TableId × Terms ℕ) (root after : Hand) (n k : ℕ) → IsRoot t root n → after.table ≡ root.table → after.view ≡ raising root.view k → IsRoot t after n
raises t root after n k is table view = record {
  limit = is.limit;
  of = (table ∙ is.of.0, ap (λ v. v.terms) view ∙ is.of.1);
  root = ap (λ v. v.root) view ∙ is.root;
  out = ap (λ v. v.out) view ∙ is.out;
}
