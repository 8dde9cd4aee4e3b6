-- What many goals share.
use Rattle.ocr_body_code.proofs.Codes.{pushed_bodies, all_bodies, pushed_sound}

pub ruleset resolving = (pushed_bodies, all_bodies, pushed_sound)
