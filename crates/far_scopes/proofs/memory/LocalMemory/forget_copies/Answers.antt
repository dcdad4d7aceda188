use Rattle.std.proofs.Common.{◌≡◌, ◌+◌, ◌≤◌, suc, length, map, get_or, refl, sym, ap, ◌∙◌, arith}
use Rattle.std.specs.Prelude.{slice_set}
use Rattle.std.specs.Vec.{with_items}
use Rattle.std.proofs.lemmas.List.{with_items_is}
use Rattle.far_scopes.specs.Memory.{list_in}
use Rattle.far_scopes.specs.Renewal.{renewed_word}
use Rattle.far_scopes.proofs.CoolLaws.{cool-renewed}
use Rattle.far_scopes.proofs.RenewalWords.{renewed_before, renewed-more, renewed-read, renewed-all, memory-renewed, list-renewed, list-placed}
use Rattle.far_scopes.proofs.memory.LocalMemory.forget_copies.Given as given
use Rattle.far_scopes.proofs.memory.LocalMemory.forget_copies.Goals as goal

now : (g : given.Over) (c : goal.After-self-1 g) → (with_items c.self.inside.words c.loop-word.word-items).items ≡ map renewed_word c.self.inside.words.items
now g c =
    let words = c.self.inside.words in
    let was : c.args.self.now.words ≡ words.items = ap (λ memory. memory.words) (sym c.self.view_is) in
    let is : c.loop-word.word-items ≡ renewed_before words.items c.loop-word.word-index = c.loop-word.invariant ∙ ap (λ ws. renewed_before ws c.loop-word.word-index) was in
    let all : length words.items ≤ c.loop-word.word-index = rw (← c.deref_mut-word-items.ensures.value) c.loop-word-test.false in
    with_items_is words c.loop-word.word-items (omega (arith, c.loop-word.auto.word-items, ap (λ ws. length ws) c.deref_mut-word-items.ensures.value, words.ok.0)) ∙ is ∙ renewed-all words.items c.loop-word.word-index all

pub invariant_of-self : goal.invariant_of-self
invariant_of-self g c = rw (now g c) record {
  memory = memory-renewed c.self.inside.words.items c.self.inside.region c.self.invariant.memory;
  count = c.self.invariant.count ∙ sym (cool-renewed c.self.inside.words.items);
}

pub loop-word-preserved : goal.loop-word-preserved
loop-word-preserved g c =
    let words = c.args.self.now.words in
    let i = c.loop-word.word-index in
    let within : suc i ≤ length words = rw (← c.self.view_is, ← c.deref_mut-word-items.ensures.value) c.loop-word-test.true in
    let next : suc i ≡ i + 1 = omega arith in
    let read : c.word-item.result ≡ get_or words i c.word-item.result = c.word-item.is ∙ ap (λ items. get_or items i c.word-item.result) c.loop-word.invariant ∙ renewed-read words i c.word-item.result in
    ap (λ items. slice_set items i c.without_copy.result) c.loop-word.invariant
    ∙ ap (slice_set (renewed_before words i) i) (c.without_copy.ensures ∙ ap renewed_word (sym c.word-item.is ∙ read))
    ∙ renewed-more words i c.word-item.result within
    ∙ ap (renewed_before words) next

pub returns-clause-renewed : goal.returns-clause-renewed
returns-clause-renewed g c = rw (now g c, ← c.self.view_is) refl

pub returns-clause-lists : goal.returns-clause-lists
returns-clause-lists g c = λ p. ap (λ memory. list_in memory p) (returns-clause-renewed g c) ∙ list-renewed c.args.self.now p

pub returns-clause-placed : goal.returns-clause-placed
returns-clause-placed g c = rw (← c.self.view_is) (list-placed c.self.inside.words.items c.self.inside.region c.self.invariant.memory)
