use Rattle.ocr_tests_stops.proofs.closer.Closer.into_parts.Goals as goal

pub returns : goal.returns
returns g c = λ table known. (c.into_inner-clerk.result.held table known).0
