-- A message is delivered where it is pending, in plain words.
use Rattle.std.proofs.Common.{◌≡◌, ℕ}
use Rattle.std.specs.List.{Contains}
use Rattle.ocr_guid.specs.declared.Code.{Code}
use Rattle.ocr_machine_history.specs.declared.entry.What.{What}
use Rattle.ocr_machine_history.specs.declared.entry.What.TheVariants as what
use Rattle.ocr_machine_history.specs.History.{History, Setting}
use Rattle.ocr_machine_parts.specs.Parts.{Parts, parts_of}
use Rattle.ocr_machine_parts.specs.Messages.{pending}
use Rattle.ocr_machine_parts.specs.LegalOn.{IsDeliverOn}
use Rattle.ocr_machine_parts.specs.Legal.{IsRun}
use Rattle.ocr_machine_laws.specs.Plain.{code_for, DeliverLaw}
use Rattle.ocr_machine_laws.proofs.Members.{leaving_law}
use Rattle.ocr_machine_laws.proofs.Sent.{sent_law}

-- what is pending finds its slot, or a scope with a member
delivers : (s : Setting) (past : History) (place index : ℕ) (w : What) (c : Code) → IsRun s past → Contains (pending s past) (place, index, w) → c ≡ code_for (parts_of s past).face w → IsDeliverOn (parts_of s past) w c
delivers s past place index (what.Set x i p) c run there is = is
delivers s past place index (what.Satisfy e slot p) c run there is = ((sent_law s past run (place, index, what.Satisfy e slot p) there).1, is)
delivers s past place index (what.Leave x) c run there is = (leaving_law s past place index x run there, is)

delivered_code : (f : Parts) (w : What) (c : Code) → IsDeliverOn f w c → c ≡ code_for f.face w
delivered_code f (what.Set x i p) c is = is
delivered_code f (what.Satisfy e slot p) c is = is.1
delivered_code f (what.Leave x) c is = is.1

pub deliver_law : DeliverLaw
deliver_law s past m c run = (
  λ legal. record { open_run = legal.open_run; sent = legal.said; code = delivered_code (parts_of s past) m.what c legal.on_parts },
  λ may. record {
    open_run = may.open_run;
    on_parts = delivers s past m.place m.index m.what c run may.sent may.code;
    on_facts = tt;
    said = may.sent;
    stopping = tt;
  },
)
