use Rattle.ocr_audit.proofs.Header.{one_input}
use Rattle.ocr_audit.proofs.input.input_law.Goals as goal

pub returns : goal.returns
returns c = record {
  one_text = λ bytes text rest other others is also. (one_input bytes text rest other others is also).0;
  one_rest = λ bytes text rest other others is also. (one_input bytes text rest other others is also).1;
}
