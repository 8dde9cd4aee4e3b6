-- The OCR machine, as a table of turns sees it.
use Rattle.std.specs.Prelude.{ℕ, ◌+◌, List, [], ◌∷◌, ◌++◌, Bool, false, ◌&&◌, ◌==◌, if◌then◌else◌, reverse, Option, Some, None}
use Rattle.ocr_body_code.specs.Checked.{checked_tree}
use Rattle.ocr_template.specs.Template.{count_meant}
use Rattle.ocr_program_tree.specs.Runnable.{IsRunnable}
use Rattle.ocr_body_meaning.specs.Call.{is_creation}
use Rattle.ocr_body_meaning.specs.Holds.{is_done}
use Rattle.ocr_body_meaning.specs.declared.call.Answer.{Answer}
use Rattle.ocr_body_meaning.specs.declared.call.Call as body
use Rattle.ocr_body_meaning.specs.declared.call.Call.TheVariants as call
use Rattle.ocr_machine_history.specs.declared.entry.Entry.{Entry}
use Rattle.ocr_machine_history.specs.declared.entry.Entry.TheVariants.{Call, Deliver, Wait, Start, End}
use Rattle.ocr_machine_history.specs.declared.entry.What.{What}
use Rattle.ocr_machine_history.specs.declared.entry.What.TheVariants as what
use Rattle.ocr_machine_history.specs.declared.objects.TheConstants.{ARGUMENTS, MAIN_EDT}
use Rattle.ocr_machine_history.specs.History.{History}
use Rattle.ocr_machine_history.specs.History as history
use Rattle.ocr_machine_history.specs.Weight.{weight_of}
use Rattle.ocr_machine_parts.specs.declared.part.Part.{Part}
use Rattle.ocr_machine_parts.specs.declared.part.Part.TheVariants as part
use Rattle.ocr_machine_parts.specs.Calls.{depc_of}
use Rattle.ocr_machine_parts.specs.Footprint.{footprint_of}
use Rattle.ocr_machine_parts.specs.Legal.{IsLegal, is_stop}
use Rattle.ocr_machine_parts.specs.Messages.{delivered, resumes, sends}
use Rattle.ocr_machine_parts.specs.Parts.{parts_of}
use Rattle.ocr_machine_parts.specs.Taken.{look, parts_in, place_of, seen}
use Rattle.ocr_turns_rule.specs.Meaning.{Counting, Meaning}
use Rattle.ocr_turns_rule.specs.Sums.{one_at, sum_of}
use Rattle.ocr_machine_laws.specs.Permanence.{is_own}
use Rattle.ocr_worker_machine.specs.Facts.{Stands, learns}
use Rattle.ocr_worker_machine.specs.declared.fact.Fact.{Fact}
use Rattle.ocr_worker_machine.specs.declared.fact.Fact.TheVariants.{IsSet}
use Rattle.ocr_worker_machine.specs.declared.setting.Setting.{Setting}

-- what the machine's history is of, with so many objects. The table has its entries in their order,
-- the machine the newest first
abbrev pub setting_in : Setting → ℕ → history.Setting
setting_in g limit = history.setting_of (checked_tree g.program) g.args.items limit

-- the entry may come after the entries, and the program may be run
pub record MayFollow (g : Setting) (limit : ℕ) (J : List Entry) (e : Entry) : Type 0 where
  pub legal : IsLegal (setting_in g limit) (reverse J) e
  pub runnable : IsRunnable (checked_tree g.program)

unfoldable pub part_of : Setting → ℕ → List Entry → ℕ → Part
part_of g limit J p = place_of limit (parts_of (setting_in g limit) (reverse J)) p

unfoldable pub stands : Setting → ℕ → List Entry → Fact → Type 0
stands g limit J f = Stands (setting_in g limit) (reverse J) f

abbrev pub sent : Setting → ℕ → List Entry → Entry → List What
sent g limit J e = sends e (parts_of (setting_in g limit) (reverse J))

-- how often the place of a part is among those that the entry names
abbrev pub touches : ℕ → Entry → ℕ → ℕ
touches limit e p = sum_of (one_at p) (footprint_of limit e)

-- a number, where it is not NULL_GUID
abbrev pub some_number : ℕ → List ℕ
some_number n = if n == 0 then [] else n ∷ []

-- the numbers of the scope and of the output event of an EDT that a call makes
abbrev pub beside : body.Call → Answer → List ℕ
beside (call.EdtCreate from pc ps dc ds fl o) a = some_number a.scope ++ some_number a.output
beside other a = []

-- the numbers that an entry makes, an EDT's own before those beside it
abbrev pub makes : Entry → List ℕ
makes (Call t home c a w) = if is_creation c && is_done a.code then a.value ∷ beside c a else []
makes other = []

-- an EDT's first entry and its last
abbrev pub starts : Entry → ℕ → Bool
starts (Start u) t = u == t
starts other t = false

abbrev pub ends : Entry → ℕ → Bool
ends (End u g) t = u == t
ends other t = false

-- the place of an EDT's core
abbrev pub core_place : ℕ → ℕ → ℕ
core_place limit t = limit + t

-- WHAT THE WORDS THAT COUNT SEE. The EDT that an entry makes, with the number of its slots
abbrev pub creates : Setting → ℕ → List Entry → Entry → Option (ℕ × ℕ)
creates g limit J (Call t home (call.EdtCreate from pc ps dc ds fl o) a w) =
    if is_done a.code then Some (
      a.value,
      depc_of (setting_in g limit)
          (Call t home (call.EdtCreate from pc ps dc ds fl o) a w ∷ reverse J) a.value,
    )
    else None
creates g limit J other = None

-- told by the template that it is made from
abbrev pub slots_meant : Part → ℕ → ℕ
slots_meant (part.Template t) depc = count_meant t.depc depc
slots_meant other depc = 0

abbrev pub counts : ℕ → Entry → List (ℕ × Part) → Option (ℕ × ℕ)
counts limit (Call t home (call.EdtCreate from pc ps dc ds fl o) a w) parts =
    if is_done a.code then Some (a.value, slots_meant (look parts from) dc) else None
counts limit other parts = None

-- the slot that a delivery sets
abbrev pub set_by : What → Option (ℕ × ℕ × ℕ)
set_by (what.Set t k p) = Some (t, k, p)
set_by other = None

abbrev pub sets : Entry → Option (ℕ × ℕ × ℕ)
sets (Deliver m c) = set_by m.what
sets other = None

-- the block for which an entry lets an EDT wait
abbrev pub waits : Entry → ℕ → Option ℕ
waits (Wait u d) t = if u == t then Some d else None
waits other t = None

-- the EDTs that an entry resumes
abbrev pub resumed : Setting → ℕ → List Entry → Entry → List ℕ
resumed g limit J e = resumes e (parts_of (setting_in g limit) (reverse J))

abbrev pub wakes : ℕ → Entry → List (ℕ × Part) → List ℕ
wakes limit e parts = resumes e (parts_in limit parts)

abbrev pub is_set : ℕ → ℕ → ℕ → Fact
is_set t k p = IsSet t k p

abbrev pub counting : Counting Setting Entry Part Fact
counting = record {
  creates = creates;
  counts = counts;
  sets = sets;
  waits = waits;
  resumes = resumed;
  wakes = wakes;
  is_set = is_set;
}

-- the opening makes the argument block and the EDT of `mainEdt`, whose slot is set to the block
abbrev pub meaning : Meaning Setting Entry Part What Fact
meaning = record {
  legal = MayFollow;
  part = part_of;
  vacant = part.Vacant;
  stands = stands;
  heavy = weight_of;
  stops = is_stop;
  touches = touches;
  sends = sent;
  delivers = delivered;
  seen = seen;
  makes = makes;
  opened = 2;
  first = (MAIN_EDT, ARGUMENTS);
  runs = is_own;
  starts = starts;
  ends = ends;
  core = core_place;
  learns = learns;
  counting = counting;
}
