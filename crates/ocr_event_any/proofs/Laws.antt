-- The laws of the steps of events, whatever their kind.
use Rattle.std.proofs.Common.{◌≡◌, ◌≤◌, ℕ, List, ◌∷◌, Bool, true, false, None, ◌==◌, refl, sym, ◌∙◌, ap}
use Rattle.ocr_guid.specs.declared.target.Target.{Target}
use Rattle.ocr_guid.specs.Target.{EventCall, Satisfaction, Link, Destruction}
use Rattle.ocr_event.proofs.Laws as of_event
use Rattle.ocr_latch.proofs.Laws as of_latch
use Rattle.ocr_channel_event.proofs.Laws as of_channel
use Rattle.ocr_event_any.specs.declared.TheConstants.{LATCH, CHANNEL}
use Rattle.ocr_event.specs.declared.EventKind.{EventKind}
use Rattle.ocr_event_any.specs.declared.AnyEvent.TheVariants as any
use Rattle.ocr_event_any.specs.AnyEvent.{takes_arg, plain_kind, state_by, is_destroyed, refusal, after_satisfy, after_link, after_destroy, SatisfyLaw, LinkLaw, DestroyLaw}

satisfied : (a b : Bool) (k : EventKind) (takes : Bool) (most : ℕ) (calls : List EventCall) (slot p : ℕ) → (b ≡ true → 1 ≤ most) → slot ≤ 1 → refusal (state_by a b k takes most calls) p ≡ None
    → state_by a b k takes most (Satisfaction slot p ∷ calls) ≡ after_satisfy (state_by a b k takes most calls) slot p
satisfied true other k takes most calls slot p least low fits = ap any.Latch (of_latch.satisfy_law takes calls slot p low fits).0
satisfied false true k takes most calls slot p least low fits = ap any.Channel (of_channel.satisfy_law most takes calls slot p (least refl) (sym (of_channel.refusal_law most takes calls p (least refl)) ∙ fits)).0
satisfied false false k takes most calls slot p least low fits = ap any.Plain (of_event.satisfy_law k takes calls slot p fits).0

pub satisfy_law : SatisfyLaw
satisfy_law k flags most calls slot p least low fits = satisfied (k == LATCH) (k == CHANNEL) (plain_kind k) (takes_arg flags) most calls slot p least low fits

linked : (a b : Bool) (k : EventKind) (takes : Bool) (most : ℕ) (calls : List EventCall) (t : Target) → is_destroyed (state_by a b k takes most calls) ≡ false
    → state_by a b k takes most (Link t ∷ calls) ≡ after_link (state_by a b k takes most calls) t
linked true other k takes most calls t live = ap any.Latch (of_latch.link_law takes calls t live).0
linked false true k takes most calls t live = ap any.Channel (of_channel.link_law most takes calls t live).0
linked false false k takes most calls t live = ap any.Plain (of_event.link_law k takes calls t live).0

pub link_law : LinkLaw
link_law k flags most calls t live = linked (k == LATCH) (k == CHANNEL) (plain_kind k) (takes_arg flags) most calls t live

destroyed : (a b : Bool) (k : EventKind) (takes : Bool) (most : ℕ) (calls : List EventCall) → is_destroyed (state_by a b k takes most calls) ≡ false
    → state_by a b k takes most (Destruction ∷ calls) ≡ after_destroy (state_by a b k takes most calls)
destroyed true other k takes most calls live = ap any.Latch (of_latch.destroy_law takes calls live).0
destroyed false true k takes most calls live = ap any.Channel (of_channel.destroy_law most takes calls live).0
destroyed false false k takes most calls live = ap any.Plain (of_event.destroy_law k takes calls live).0

pub destroy_law : DestroyLaw
destroy_law k flags most calls live = destroyed (k == LATCH) (k == CHANNEL) (plain_kind k) (takes_arg flags) most calls live
