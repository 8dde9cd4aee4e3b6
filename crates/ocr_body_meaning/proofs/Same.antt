-- Calls that are equal are the same.
use Rattle.std.proofs.Common.{◌≡◌, true, false, Bool, refl, sym, subst}
use Rattle.std.proofs.lemmas.Bool.{and_parts, eqb-true}
use Rattle.std.specs.Cmp.Lexicographic.{same_text}
use Rattle.std.specs.contracts.prelude.BoolPartialEq.TheImpl as bools
use Rattle.ocr_body_meaning.specs.declared.call.Call.{Call}
use Rattle.ocr_body_meaning.specs.declared.call.Call.TheVariants as call
use Rattle.ocr_body_meaning.specs.contracts.call.CallPartialEq.TheImpl as impl
use Rattle.ocr_body_meaning.specs.contracts.call.CallEq.TheImpl.Laws.{laws-law}

same_flag : (a b : Bool) → (bools.ghosts).eq a b ≡ true → a ≡ b
same_flag true true is = refl
same_flag false false is = refl
same_flag a b is = cc

pub same_call : (a b : Call) → (impl.ghosts).eq a b ≡ true → a ≡ b
same_call (call.DbCreate a0 a1) (call.DbCreate b0 b1) is =
    let p0 = and_parts _ _ is in
    λ i. call.DbCreate (eqb-true a0 b0 p0.0 i) (eqb-true a1 b1 p0.1 i)
same_call (call.DbCreate a0 a1) other is = cc
same_call (call.DbRelease a0) (call.DbRelease b0) is =
    λ i. call.DbRelease (eqb-true a0 b0 is i)
same_call (call.DbRelease a0) other is = cc
same_call (call.DbDestroy a0) (call.DbDestroy b0) is =
    λ i. call.DbDestroy (eqb-true a0 b0 is i)
same_call (call.DbDestroy a0) other is = cc
same_call (call.EventCreate a0 a1) (call.EventCreate b0 b1) is =
    let p0 = and_parts _ _ is in
    λ i. call.EventCreate (eqb-true a0 b0 p0.0 i) (eqb-true a1 b1 p0.1 i)
same_call (call.EventCreate a0 a1) other is = cc
same_call (call.EventCreateParams a0 a1 a2 a3 a4) (call.EventCreateParams b0 b1 b2 b3 b4) is =
    let p0 = and_parts _ _ is in
    let p1 = and_parts _ _ p0.1 in
    let p2 = and_parts _ _ p1.1 in
    let p3 = and_parts _ _ p2.1 in
    λ i. call.EventCreateParams (eqb-true a0 b0 p0.0 i) (eqb-true a1 b1 p1.0 i) (eqb-true a2 b2 p2.0 i) (eqb-true a3 b3 p3.0 i) (eqb-true a4 b4 p3.1 i)
same_call (call.EventCreateParams a0 a1 a2 a3 a4) other is = cc
same_call (call.EventDestroy a0) (call.EventDestroy b0) is =
    λ i. call.EventDestroy (eqb-true a0 b0 is i)
same_call (call.EventDestroy a0) other is = cc
same_call (call.Satisfy a0 a1 a2) (call.Satisfy b0 b1 b2) is =
    let p0 = and_parts _ _ is in
    let p1 = and_parts _ _ p0.1 in
    λ i. call.Satisfy (eqb-true a0 b0 p0.0 i) (eqb-true a1 b1 p1.0 i) (eqb-true a2 b2 p1.1 i)
same_call (call.Satisfy a0 a1 a2) other is = cc
same_call (call.AddDependence a0 a1 a2 a3) (call.AddDependence b0 b1 b2 b3) is =
    let p0 = and_parts _ _ is in
    let p1 = and_parts _ _ p0.1 in
    let p2 = and_parts _ _ p1.1 in
    λ i. call.AddDependence (eqb-true a0 b0 p0.0 i) (eqb-true a1 b1 p1.0 i) (eqb-true a2 b2 p2.0 i) (eqb-true a3 b3 p2.1 i)
same_call (call.AddDependence a0 a1 a2 a3) other is = cc
same_call (call.TemplateCreate a0 a1 a2) (call.TemplateCreate b0 b1 b2) is =
    let p0 = and_parts _ _ is in
    let p1 = and_parts _ _ p0.1 in
    λ i. call.TemplateCreate (eqb-true a0 b0 p0.0 i) (eqb-true a1 b1 p1.0 i) (eqb-true a2 b2 p1.1 i)
same_call (call.TemplateCreate a0 a1 a2) other is = cc
same_call (call.TemplateDestroy a0) (call.TemplateDestroy b0) is =
    λ i. call.TemplateDestroy (eqb-true a0 b0 is i)
same_call (call.TemplateDestroy a0) other is = cc
same_call (call.EdtCreate a0 a1 a2 a3 a4 a5 a6) (call.EdtCreate b0 b1 b2 b3 b4 b5 b6) is =
    let p0 = and_parts _ _ is in
    let p1 = and_parts _ _ p0.1 in
    let p2 = and_parts _ _ p1.1 in
    let p3 = and_parts _ _ p2.1 in
    let p4 = and_parts _ _ p3.1 in
    let p5 = and_parts _ _ p4.1 in
    λ i. call.EdtCreate (eqb-true a0 b0 p0.0 i) (eqb-true a1 b1 p1.0 i) (same_text a2 b2 (sym p2.0) i) (eqb-true a3 b3 p3.0 i) (same_text a4 b4 (sym p4.0) i) (eqb-true a5 b5 p5.0 i) (same_flag a6 b6 p5.1 i)
same_call (call.EdtCreate a0 a1 a2 a3 a4 a5 a6) other is = cc
same_call call.Shutdown call.Shutdown is = refl
same_call call.Shutdown other is = cc
same_call (call.Abort a0) (call.Abort b0) is =
    λ i. call.Abort (eqb-true a0 b0 is i)
same_call (call.Abort a0) other is = cc
same_call (call.Load a0 a1) (call.Load b0 b1) is =
    let p0 = and_parts _ _ is in
    λ i. call.Load (eqb-true a0 b0 p0.0 i) (eqb-true a1 b1 p0.1 i)
same_call (call.Load a0 a1) other is = cc
same_call (call.Store a0 a1 a2) (call.Store b0 b1 b2) is =
    let p0 = and_parts _ _ is in
    let p1 = and_parts _ _ p0.1 in
    λ i. call.Store (eqb-true a0 b0 p0.0 i) (eqb-true a1 b1 p1.0 i) (eqb-true a2 b2 p1.1 i)
same_call (call.Store a0 a1 a2) other is = cc
same_call (call.Print a0) (call.Print b0) is =
    λ i. call.Print (eqb-true a0 b0 is i)
same_call (call.Print a0) other is = cc

pub call_same : (a b : Call) → a ≡ b → (impl.ghosts).eq a b ≡ true
call_same a b is = subst (λ (c : Call). (impl.ghosts).eq a c ≡ true) is (laws-law.refl a)
