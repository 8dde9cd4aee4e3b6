use Rattle.ocr_journal.proofs.calls.call.Goals as goal

pub returns-in-AddDependence : goal.returns-in-AddDependence
returns-in-AddDependence c = rw c.in-AddDependence.is c.phrase-in-AddDependence.ensures

pub returns-in-TemplateCreate : goal.returns-in-TemplateCreate
returns-in-TemplateCreate c =
    let a = rw c.name_at-name.ensures at c.named_phrase.ensures in
    rw c.in-TemplateCreate.is a
