use Rattle.std.proofs.Common.{Option, sym, ◌∙◌, ap}
use Rattle.ocr_machine_history.specs.declared.entry.Entry.{Entry}
use Rattle.ocr_memory_model_order.specs.Makers.{source_of}
use Rattle.ocr_memory_model.proofs.Entries.{entry_in}
use Rattle.ocr_memory_model.proofs.sources.source_at.Goals as goal

pub returns : goal.returns
returns c = c.source_of.ensures
    ∙ ap (λ (o : Option Entry). source_of o c.args.message.now.what) (sym (entry_in c.args.entries.now c.args.message.now.place c.index-entries-message.result c.requires c.index-entries-message.is))
