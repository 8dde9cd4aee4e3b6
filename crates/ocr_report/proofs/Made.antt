-- What an entry adds to what was made.
use Rattle.std.proofs.Common.{◌≡◌, ℕ, List, ◌∷◌, Bool, true, false, refl, if◌then◌else◌}
use Rattle.std.specs.Prelude.{Some, None}
use Rattle.ocr_body_meaning.specs.declared.call.Call.TheVariants as call
use Rattle.ocr_body_meaning.specs.Holds.{is_done}
use Rattle.ocr_machine_history.specs.declared.entry.Entry.{Entry}
use Rattle.ocr_machine_history.specs.declared.entry.Entry.TheVariants as an
use Rattle.ocr_machine_history.specs.History.{History}
use Rattle.ocr_machine_history.specs.Made.{made_edts}
use Rattle.ocr_machine_history.specs.Numbers.{placed}
use Rattle.ocr_report.specs.Made.{edt_in, with_number}

of_done : (b : Bool) (n : ℕ) (ns : List ℕ)
    → (if b then placed n ns else ns) ≡ with_number (if b then Some n else None) ns
of_done true n ns = refl
of_done false n ns = refl

pub edts_next : (e : Entry) (past : History) → made_edts (e ∷ past) ≡ with_number (edt_in e) (made_edts past)
edts_next (an.Call t home (call.EdtCreate from pc ps dc ds fl o) a w) past = of_done (is_done a.code) a.value (made_edts past)
edts_next (an.Call t home (call.DbCreate n fl) a w) past = refl
edts_next (an.Call t home (call.DbRelease d) a w) past = refl
edts_next (an.Call t home (call.DbDestroy d) a w) past = refl
edts_next (an.Call t home (call.EventCreate k fl) a w) past = refl
edts_next (an.Call t home (call.EventCreateParams k fl m n p) a w) past = refl
edts_next (an.Call t home (call.EventDestroy e) a w) past = refl
edts_next (an.Call t home (call.Satisfy e p k) a w) past = refl
edts_next (an.Call t home (call.AddDependence from x i m) a w) past = refl
edts_next (an.Call t home (call.TemplateCreate f pc dc) a w) past = refl
edts_next (an.Call t home (call.TemplateDestroy g) a w) past = refl
edts_next (an.Call t home call.Shutdown a w) past = refl
edts_next (an.Call t home (call.Abort c) a w) past = refl
edts_next (an.Call t home (call.Load d k) a w) past = refl
edts_next (an.Call t home (call.Store d k v) a w) past = refl
edts_next (an.Call t home (call.Print v) a w) past = refl
edts_next (an.Deliver m c) past = refl
edts_next (an.Acquire t d) past = refl
edts_next (an.Wait t d) past = refl
edts_next (an.StaleAcquire t d) past = refl
edts_next (an.Start t) past = refl
edts_next (an.Free t d w) past = refl
edts_next (an.End t g) past = refl
edts_next (an.Stop why) past = refl
