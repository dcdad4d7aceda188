use Rattle.std.proofs.Common.{◌≡◌, ◌+◌, ◌<◌, false, length, get_or, subst, ◌∙◌, arith}
use Rattle.std.specs.Prelude.{slice_index, slice_set}
use Rattle.std.proofs.lemmas.List.{get_or_default}
use Rattle.std.proofs.lemmas.List.Elements.{All-get_or}
use Rattle.far_pointer.specs.declared.pointer.At.{At}
use Rattle.far_pointer.specs.declared.pointer.Pointer.{Pointer}
use Rattle.far_pointer.specs.Layout.{is_hot, with_hot, with_at}
use Rattle.far_scopes.specs.declared.memory.compaction.SegmentObject.{SegmentObject}
use Rattle.far_scopes.specs.SegmentObjects.{Settles}
use Rattle.far_scopes.specs.Cool.{cool_in}
use Rattle.far_scopes.proofs.MemoryWordPlaces.{word-read}
use Rattle.far_scopes.proofs.SegmentObjectsWords.{settles-none, settles-more}
use Rattle.far_scopes.proofs.CoolLaws.{more-cooled, hot-at-most-one, cool-set}
use Rattle.far_scopes.proofs.memory.compaction.settle.Goals as goal

pub returns-clause-settled : goal.returns-clause-settled
returns-clause-settled c =
    subst (λ n. Settles c.args.words.now c.loop-k.words c.args.objects.now c.args.moved.now.segment c.args.moved.now.offsets.items n) (omega (arith, c.loop-k-test.false, c.loop-k.auto.k-end)) c.loop-k.invariant.settled

pub returns-clause-cooled : goal.returns-clause-cooled
returns-clause-cooled c = c.loop-k.invariant.cooled

pub loop-k-init : goal.loop-k-init
loop-k-init c = record {
  settled = settles-none c.args.words.now c.args.objects.now c.args.moved.now.segment c.args.moved.now.offsets.items;
  cooled = omega arith;
  few = omega arith;
}

pub overflow_add-cooled : goal.overflow_add-cooled
overflow_add-cooled c = omega (arith, c.hot_of-cooled.ensures, hot-at-most-one (is_hot c.index-words-found.result), c.loop-k.invariant.few, c.loop-k-test.true)

pub loop-k-preserved : goal.loop-k-preserved
loop-k-preserved c =
    let zero : SegmentObject = record { object = 0; offset = 0 } in
    let found : SegmentObject = get_or c.args.objects.now c.loop-k.k zero in
    let word : Pointer = c.index-words-found.result in
    let within : found.object < length c.args.words.now = All-get_or (λ (f : SegmentObject). f.object < length c.args.words.now) c.args.objects.now c.loop-k.k zero c.loop-k-test.true c.requires.within in
    let read = word-read c.loop-k.words found.object word (omega (arith, within, c.loop-k.auto.words)) c.index-words-found.is in
    let offset : c.index.result.now ≡ slice_index c.args.moved.now.offsets.items c.loop-k.k = c.index.ensures ∙ get_or_default c.args.moved.now.offsets.items c.loop-k.k c.index.result.now 0 (omega (arith, c.loop-k-test.true, c.requires.long)) in
    let at : At = record { segment = c.args.moved.now.segment; offset = slice_index c.args.moved.now.offsets.items c.loop-k.k } in
    let next : Pointer = with_hot (with_at word at) false in
    let cooled : cool_in (slice_set c.loop-k.words found.object next) ≡ cool_in c.args.words.now + (c.loop-k.cooled + c.hot_of-cooled.result) =
    omega (arith, cool-set c.loop-k.words found.object word read next, more-cooled word at, c.hot_of-cooled.ensures, c.loop-k.invariant.cooled) in
    rw (c.with_hot.ensures, c.with_at.ensures, offset) record {
      settled = settles-more c.args.words.now c.loop-k.words c.args.objects.now c.args.moved.now.segment c.args.moved.now.offsets.items c.loop-k.k found word c.requires.once c.loop-k-test.true (get_or_default c.args.objects.now c.loop-k.k zero found c.loop-k-test.true) read c.loop-k.invariant.settled;
      cooled = cooled;
      few = omega (arith, c.hot_of-cooled.ensures, hot-at-most-one (is_hot word), c.loop-k.invariant.few);
    }
