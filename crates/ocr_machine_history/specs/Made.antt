-- What the objects of a run are. The opening makes the argument block and the EDT of `mainEdt`.
use Rattle.std.specs.Prelude.{ℕ, ◌+◌, ◌/◌, List, [], ◌∷◌, length, Bool, true, false, ◌||◌, ◌&&◌, not, ◌==◌, if◌then◌else◌, Option, Some, None}
use Rattle.ocr_base.specs.Default.{count_meant}
use Rattle.ocr_program_tree.specs.Functions.{number_of_main}
use Rattle.ocr_body_meaning.specs.Call.{is_creation}
use Rattle.ocr_body_meaning.specs.Holds.{is_done}
use Rattle.ocr_body_meaning.specs.declared.call.Call as body
use Rattle.ocr_body_meaning.specs.declared.call.Call.TheVariants as call
use Rattle.ocr_body_meaning.specs.declared.call.Answer.{Answer}
use Rattle.ocr_machine_history.specs.declared.objects.TheConstants.{ARGUMENTS, MAIN_EDT, OUTPUT_KIND, OUTPUT_FLAGS}
use Rattle.ocr_machine_history.specs.declared.entry.Entry.TheVariants.{Call}
use Rattle.ocr_machine_history.specs.History.{History, Setting}
use Rattle.ocr_machine_history.specs.Numbers.{placed}

-- what an object is: a block with so many words and the EDT that held it as its creator, 0 where
-- none did, a template of this function with its counts, an EDT with its function, its parameters
-- and the number of its slots, an event of the kind of this number with its flags, a channel with
-- the most satisfactions that it keeps, or a finish scope with the scope that it leaves and the
-- event that it satisfies when it is done, each 0 where there is none
pub data Made : Type 0 where
  MadeBlock : (words creator : ℕ) → Made
  MadeTemplate : (function paramc depc : ℕ) → Made
  MadeEdt : (function : ℕ) → (params : List ℕ) → (depc : ℕ) → Made
  MadeEvent : (kind flags most : ℕ) → Made
  MadeScope : (outer event : ℕ) → Made

-- an accepted creation with this answer makes this object
abbrev pub makes : Answer → ℕ → Bool
makes answer g = is_done answer.code && (answer.value == g)

-- a number that is not NULL_GUID names this object
abbrev pub names_new : ℕ → ℕ → Bool
names_new n g = not (n == 0) && (n == g)

-- this object is the scope or the output event of an EDT that the call makes
abbrev pub is_beside : body.Call → Answer → ℕ → Bool
is_beside (call.EdtCreate from pc ps dc ds fl o) a g =
    is_done a.code && (names_new a.scope g || names_new a.output g)
is_beside other a g = false

-- this call makes this object
abbrev pub is_new : body.Call → Answer → ℕ → Bool
is_new c a g = is_beside c a g || (is_creation c && makes a g)

-- the EDT that is made from a template with these parameters and this count
abbrev pub edt_from : Option Made → List ℕ → ℕ → Option Made
edt_from (Some (MadeTemplate f own_paramc own_depc)) params depc =
    Some (MadeEdt f params (count_meant own_depc depc))
edt_from other params depc = None

-- what is made beside an EDT whose maker has this home: its scope, and its output event
abbrev pub made_beside : Answer → ℕ → ℕ → Option Made → Option Made
made_beside a home g before =
    if is_done a.code && names_new a.scope g then Some (MadeScope home a.output)
    else if is_done a.code && names_new a.output g then
    Some (MadeEvent OUTPUT_KIND OUTPUT_FLAGS 0)
    else before

-- the creator holds its block, unless the flag says that it does not
abbrev pub creator_of : ℕ → ℕ → ℕ
creator_of t flags = if flags == 0 then t else 0

-- what the opening makes
abbrev pub opened : Setting → ℕ → Option Made
opened s g =
    if g == ARGUMENTS then Some (MadeBlock (length s.args + 1) 0)
    else if g == MAIN_EDT then Some (MadeEdt (number_of_main s.program) [] 1)
    else None

-- what an object is, where it is made
abbrev pub made : Setting → History → ℕ → Option Made
made s [] g = opened s g
made s (Call t home (call.DbCreate n fl) answer writes ∷ past) g =
    if makes answer g then Some (MadeBlock (n / 8) (creator_of t fl)) else made s past g
made s (Call t home (call.TemplateCreate f pc dc) answer writes ∷ past) g =
    if makes answer g then Some (MadeTemplate f pc dc) else made s past g
made s (Call t home (call.EdtCreate from pc ps dc ds fl o) answer writes ∷ past) g =
    if makes answer g then edt_from (made s past from) ps dc
    else made_beside answer home g (made s past g)
made s (Call t home (call.EventCreate k fl) answer writes ∷ past) g =
    if makes answer g then Some (MadeEvent k fl 0) else made s past g
made s (Call t home (call.EventCreateParams k fl most sats deps) answer writes ∷ past) g =
    if makes answer g then Some (MadeEvent k fl most) else made s past g
made s (e ∷ past) g = made s past g

-- this object is an EDT
abbrev pub is_edt : History → ℕ → Bool
is_edt [] g = g == MAIN_EDT
is_edt (Call t home (call.EdtCreate from pc ps dc ds fl o) answer writes ∷ past) g =
    makes answer g || is_edt past g
is_edt (e ∷ past) g = is_edt past g

-- the EDTs, rising
abbrev pub made_edts : History → List ℕ
made_edts [] = MAIN_EDT ∷ []
made_edts (Call t home (call.EdtCreate from pc ps dc ds fl o) answer writes ∷ past) =
    if is_done answer.code then placed answer.value (made_edts past) else made_edts past
made_edts (e ∷ past) = made_edts past

abbrev pub function_in : Option Made → ℕ
function_in (Some (MadeEdt f ps n)) = f
function_in other = 0

abbrev pub params_in : Option Made → List ℕ
params_in (Some (MadeEdt f ps n)) = ps
params_in other = []

abbrev pub depc_in : Option Made → ℕ
depc_in (Some (MadeEdt f ps n)) = n
depc_in other = 0

abbrev pub size_in : Option Made → ℕ
size_in (Some (MadeBlock n c)) = n
size_in other = 0

abbrev pub creator_in : Option Made → ℕ
creator_in (Some (MadeBlock n c)) = c
creator_in other = 0

abbrev pub is_edt_made : Option Made → Bool
is_edt_made (Some (MadeEdt f ps n)) = true
is_edt_made other = false
