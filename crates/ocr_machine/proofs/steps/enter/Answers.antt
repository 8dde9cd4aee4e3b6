use Rattle.std.proofs.Common.{◌≡◌, ap, rules}
use Rattle.ocr_guid.specs.declared.Code.TheVariants as code
use Rattle.ocr_machine_history.specs.declared.entry.Entry.TheVariants.{Call}
use Rattle.ocr_body_meaning.specs.Holds.{is_done}
use Rattle.ocr_machine_parts.specs.Footprint.{Covers}
use Rattle.ocr_machine_parts.specs.LegalOn.{IsCallOn}
use Rattle.ocr_machine_effects.specs.AtHand.{AtHand, state}
use Rattle.ocr_machine.proofs.Footprints.{has_made}
use Rattle.ocr_machine.proofs.steps.enter.Goals as goal

pub call_entry-requires-clause-accepted : goal.call_entry-requires-clause-accepted
call_entry-requires-clause-accepted c =
    let h : AtHand = c.args.parts.now in
    let on : IsCallOn h.limit (state h) c.in-Call.edt c.in-Call.home c.in-Call.call c.in-Call.answer c.in-Call.writes = rw c.in-Call.is at c.requires.legal in
    let covers : Covers h.limit (Call c.in-Call.edt c.in-Call.home c.in-Call.call c.in-Call.answer c.in-Call.writes) h.items = rw c.in-Call.is at c.requires.covers in
    let done : c.in-Call.answer.code ≡ code.Done = search rules in
    rw c.home.view_is (record {
      legal = on;
      done = done;
      made = has_made h c.in-Call.edt c.in-Call.home c.in-Call.call c.in-Call.answer c.in-Call.writes covers (ap is_done done) on;
    })
