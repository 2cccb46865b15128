-- The messages of a stream as a cutting.
use Rattle.std.proofs.Common.{◌≡◌, ◌++◌, ◌∙◌, ap, map, List, ℕ, is_some, true, Option, Some, None, refl, sym}
use Rattle.std.proofs.lemmas.List.{map-append}
use Rattle.wire_def.specs.declared.encoding.Back.{Back}
use Rattle.wire_frames.specs.declared.frames.FrameErr.{FrameErr}
use Rattle.wire_frames.specs.declared.messages.Part.{Part}
use Rattle.wire_frames.specs.declared.messages.Part.TheVariants as part
use Rattle.wire_frames.specs.Cut.{cut}
use Rattle.wire_frames.specs.Reading.{parts}
use Rattle.wire_frames.proofs.Parting.{messages-grow, parts-grow, parts-stay}
use Rattle.flick_top.specs.declared.items.Item.TheVariants as items
use Rattle.flick_top.specs.Items.{IsCutting, by_frames, messages_as}

some_fault : (o : Option FrameErr) → is_some o ≡ true → (e : FrameErr) × (o ≡ Some e)
some_fault None is = absurd (cc is)
some_fault (Some e) is = (e, refl)

pub streams_cut : (back : Back) → IsCutting (by_frames back)
streams_cut back = record {
  ended = λ octets more.
      let (ms, grown) = messages-grow back octets more in
      let before = (cut back octets).messages in (
        messages_as ms,
        ap messages_as grown ∙ ap (map items.Part) (map-append part.Message before ms)
            ∙ map-append items.Part (map part.Message before) (map part.Message ms),
      );
  whole = λ octets more.
      let before = (cut back octets).messages in
      let behind = parts back ((cut back octets).rest ++ more) in
      (map items.Part behind, ap (map items.Part) (parts-grow back octets more) ∙ map-append items.Part (map part.Message before) behind);
  stays = λ octets more stopped.
      let (e, is) = some_fault (cut back octets).fault stopped in ap (map items.Part) (parts-stay back octets more e is);
}
