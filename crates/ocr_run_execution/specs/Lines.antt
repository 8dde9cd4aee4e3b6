-- The lines on `err`.
use Rattle.std.specs.Prelude.{◌==◌, ℕ, List, [], ◌∷◌, ◌++◌, length, codes, if◌then◌else◌}
use Rattle.std.specs.Fmt.{decimal}
use Rattle.ocr_machine_history.specs.declared.entry.Entry.TheVariants.{Stop}
use Rattle.ocr_machine_history.specs.declared.entry.Fault as machine
use Rattle.ocr_machine_history.specs.declared.entry.Fault.TheVariants as kind
use Rattle.ocr_machine_history.specs.declared.entry.Stop as run
use Rattle.ocr_machine_history.specs.declared.entry.Stop.TheVariants as by
use Rattle.ocr_machine_history.specs.History.{History}
use Rattle.ocr_machine_history.specs.Output.{left_edts}
use Rattle.ocr_run_execution.specs.declared.text.TextFault.{TextFault}
use Rattle.ocr_run_execution.specs.declared.text.TextFault.TheVariants as fault

-- words and a number
abbrev pub numbered : List ℕ → ℕ → List ℕ
numbered words n = words ++ (decimal n ++ 10 ∷ [])

abbrev pub fault_words : machine.Fault → List ℕ
fault_words kind.ZeroDivisor = codes "zero divisor"
fault_words kind.BadIndex = codes "bad index"
fault_words kind.NotHeld = codes "not held"
fault_words kind.NotWritable = codes "not writable"
fault_words kind.Fuel = codes "fuel"

abbrev pub stop_line : run.Stop → List ℕ
stop_line (by.Shutdown t) = []
stop_line (by.Abort t code) = numbered (codes "aborted: ") code
stop_line (by.Fault t why) =
    codes "fault in edt " ++ (decimal t ++ (codes ": " ++ (fault_words why ++ 10 ∷ [])))
stop_line by.Objects = codes "limit: objects\n"
stop_line (by.Events worker weight) = numbered (codes "limit: events of worker ") worker
stop_line by.Memory = codes "want of memory\n"

-- the line of a run without a stop, by how many EDTs are left
abbrev pub quiet_line : ℕ → List ℕ
quiet_line left = if left == 0 then [] else numbered (codes "stuck: ") left

-- the line of a run
abbrev pub ending_line : History → List ℕ
ending_line [] = quiet_line (length (left_edts []))
ending_line (Stop why ∷ past) = stop_line why
ending_line (e ∷ past) = quiet_line (length (left_edts (e ∷ past)))

-- the line of bytes that are no program
abbrev pub fault_line : TextFault → List ℕ
fault_line (fault.Lexical place) = numbered (codes "lex fault at ") place
fault_line (fault.Syntax place) = numbered (codes "syntax fault at ") place
fault_line (fault.Breach breach) = codes "check fault: rule "
    ++ (decimal breach.rule ++ numbered (codes " in function ") breach.function)
