use Rattle.ocr_channel_event.proofs.Laws.{satisfy_law, link_law, destroyed_law, match_law, room_law}
use Rattle.ocr_channel_event.proofs.channel_laws.Goals as goal

pub returns-clause-satisfy : goal.returns-clause-satisfy
returns-clause-satisfy c = satisfy_law

pub returns-clause-link : goal.returns-clause-link
returns-clause-link c = link_law

pub returns-clause-destroyed : goal.returns-clause-destroyed
returns-clause-destroyed c = destroyed_law

pub returns-clause-matched : goal.returns-clause-matched
returns-clause-matched c = match_law

pub returns-clause-room : goal.returns-clause-room
returns-clause-room c = room_law
