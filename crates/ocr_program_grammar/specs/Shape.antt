-- The calls: the name of each, and what stands between its round brackets.
use Rattle.std.specs.Prelude.{ℕ, List, [], ◌∷◌, codes}
use Rattle.ocr_program_tree.specs.declared.tree.CallName.{CallName}
use Rattle.ocr_program_tree.specs.declared.tree.CallName.TheVariants as name
use Rattle.ocr_program_grammar.specs.declared.argument_kind.ArgumentKind.{ArgumentKind}
use Rattle.ocr_program_grammar.specs.declared.argument_kind.ArgumentKind.TheVariants.{Value, Values, NameOfFunction, FlagsAndOutput}

abbrev pub of_call : CallName → List ℕ × List ArgumentKind
of_call name.DbCreate = (codes "ocrDbCreate", Value ∷ Value ∷ [])
of_call name.DbRelease = (codes "ocrDbRelease", Value ∷ [])
of_call name.DbDestroy = (codes "ocrDbDestroy", Value ∷ [])
of_call name.EventCreate = (codes "ocrEventCreate", Value ∷ Value ∷ [])
of_call name.EventCreateParams =
    (codes "ocrEventCreateParams", Value ∷ Value ∷ Value ∷ Value ∷ Value ∷ [])
of_call name.EventDestroy = (codes "ocrEventDestroy", Value ∷ [])
of_call name.Satisfy = (codes "ocrEventSatisfy", Value ∷ Value ∷ [])
of_call name.SatisfySlot = (codes "ocrEventSatisfySlot", Value ∷ Value ∷ Value ∷ [])
of_call name.AddDependence = (codes "ocrAddDependence", Value ∷ Value ∷ Value ∷ Value ∷ [])
of_call name.TemplateCreate = (codes "ocrEdtTemplateCreate", NameOfFunction ∷ Value ∷ Value ∷ [])
of_call name.TemplateDestroy = (codes "ocrEdtTemplateDestroy", Value ∷ [])
of_call name.EdtCreate =
    (codes "ocrEdtCreate", Value ∷ Value ∷ Values ∷ Value ∷ Values ∷ FlagsAndOutput ∷ [])
of_call name.Shutdown = (codes "ocrShutdown", [])
of_call name.Abort = (codes "ocrAbort", Value ∷ [])
of_call name.Load = (codes "load", Value ∷ Value ∷ [])
of_call name.Store = (codes "store", Value ∷ Value ∷ Value ∷ [])

abbrev pub call_text : CallName → List ℕ
call_text call = (of_call call).0

abbrev pub shape : CallName → List ArgumentKind
shape call = (of_call call).1
