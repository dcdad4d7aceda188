use Rattle.std.proofs.Common.{◌≡◌, ◌⊎◌, false, [], ◌∷◌, length, None, Some, sym, ap, subst, ◌∙◌}
use Rattle.std.specs.Option.{option_or}
use Rattle.far_types.specs.declared.refusal.Refusal.TheVariants.{NoMemory}
use Rattle.far_types.specs.FirstOf.{first_of}
use Rattle.far_log.specs.RegionState.{fits_in}
use Rattle.far_scopes.specs.Memory.{list_in, ChangesList}
use Rattle.far_scopes.specs.Placing.{with_object}
use Rattle.far_scopes.specs.Refusing.{refusal_in}
use Rattle.far_scopes.proofs.ReplacingFits.{no_space-next}
use Rattle.far_scopes.proofs.ReplacingFirst.{once-rest, local-rest, first-other, local-first, local-last, replaced-is, lists-replaced}
use Rattle.far_scopes.proofs.memory.LocalMemory.+replace_all.Goals as goal

pub replace_all-requires-clause-local : goal.replace_all-requires-clause-local
replace_all-requires-clause-local g t c κs within =
    let placed = c.in_ok-add.ensures.ok ∙ ap (with_object c.args.self.now) c.deref.ensures.value in
    local-rest c.args.self.now c.in-Some.first.now c.in-Some.rest.now c.args.lists.now c.in-Some.ensures.cases.0 c.requires.local c.requires.once c.add.new.self placed

pub replace_all-requires-clause-once : goal.replace_all-requires-clause-once
replace_all-requires-clause-once g t c κs within =
    let placed = c.in_ok-add.ensures.ok ∙ ap (with_object c.args.self.now) c.deref.ensures.value in
    once-rest c.args.self.now c.in-Some.first.now c.in-Some.rest.now c.args.lists.now c.in-Some.ensures.cases.0 c.requires.local c.requires.once c.add.new.self placed

pub returns-in-Err-clause-refused : goal.returns-in-Err-clause-refused
returns-in-Err-clause-refused g t c =
    let placed = c.in_ok-add.ensures.ok ∙ ap (with_object c.args.self.now) c.deref.ensures.value in
    let fits = no_space-next c.args.self.now.state c.add.new.self.state c.in-Some.first.now c.in-Some.rest.now c.args.lists.now c.in-Some.ensures.cases.0 (ap (λ m. m.state) placed) (λ none. let never = c.in_ok-add.ensures.full.1 (subst (λ l. fits_in c.args.self.now.state (length l) ≡ false) (sym c.deref.ensures.value) none) in cc) in
    subst (λ b. (option_or (first_of (b ∷ [])) (refusal_in c.args.checked) ≡ Some c.in-Err.refusal) ⊎ (c.in-Err.refusal ≡ NoMemory)) (sym fits) c.in-Err.ensures.refused

pub take_over-requires-clause-other : goal.take_over-requires-clause-other
take_over-requires-clause-other g t c κs within =
    let placed = c.in_ok-add.ensures.ok ∙ ap (with_object c.args.self.now) c.deref.ensures.value in
    first-other c.args.self.now c.in-Some.first.now c.in-Some.rest.now c.args.lists.now c.in-Some.ensures.cases.0 c.requires.local c.requires.once c.add.new.self placed c.replace_all.new.self c.in_default-replace_all.ensures.replaced.state

pub take_over-requires-clause-local : goal.take_over-requires-clause-local
take_over-requires-clause-local g t c κs within =
    let placed = c.in_ok-add.ensures.ok ∙ ap (with_object c.args.self.now) c.deref.ensures.value in
    local-first c.args.self.now c.in-Some.first.now c.in-Some.rest.now c.args.lists.now c.in-Some.ensures.cases.0 c.requires.local c.requires.once c.add.new.self placed c.replace_all.new.self c.in_default-replace_all.ensures.replaced.state

pub take_over-requires-clause-last : goal.take_over-requires-clause-last
take_over-requires-clause-last g t c κs within =
    let placed = c.in_ok-add.ensures.ok ∙ ap (with_object c.args.self.now) c.deref.ensures.value in
    local-last c.args.self.now c.in-Some.first.now c.in-Some.rest.now c.args.lists.now c.in-Some.ensures.cases.0 c.requires.local c.requires.once c.add.new.self placed c.replace_all.new.self c.in_default-replace_all.ensures.replaced.state

pub returns-clause-replaced : goal.returns-clause-replaced
returns-clause-replaced g t c =
    let placed = c.in_ok-add.ensures.ok ∙ ap (with_object c.args.self.now) c.deref.ensures.value in
    let first = subst (λ l. ChangesList (list_in c.args.self.now) (list_in c.add.new.self) (length c.args.self.now.words) (Some l)) c.deref.ensures.value c.in_ok-add.ensures.list in
    record {
      state = replaced-is c.args.self.now c.in-Some.first.now c.in-Some.rest.now c.args.lists.now c.in-Some.ensures.cases.0 c.requires.local c.requires.once c.add.new.self placed c.replace_all.new.self c.in_default-replace_all.ensures.replaced.state c.take_over.new.self c.take_over.ensures.effect;
      each = lists-replaced c.args.self.now c.in-Some.first.now c.in-Some.rest.now c.args.lists.now c.in-Some.ensures.cases.0 c.requires.local c.requires.once c.add.new.self placed c.replace_all.new.self c.in_default-replace_all.ensures.replaced.state c.take_over.new.self c.take_over.ensures.effect first c.in_default-replace_all.ensures.replaced.each c.take_over.ensures.here c.take_over.ensures.others;
    }

pub returns-clause-free : goal.returns-clause-free
returns-clause-free g t c =
    let placed = c.in_ok-add.ensures.ok ∙ ap (with_object c.args.self.now) c.deref.ensures.value in
    let fits = no_space-next c.args.self.now.state c.add.new.self.state c.in-Some.first.now c.in-Some.rest.now c.args.lists.now c.in-Some.ensures.cases.0 (ap (λ m. m.state) placed) (λ none. let never = c.in_ok-add.ensures.full.1 (subst (λ l. fits_in c.args.self.now.state (length l) ≡ false) (sym c.deref.ensures.value) none) in cc) in
    subst (λ b. option_or (first_of (b ∷ [])) (refusal_in c.args.checked) ≡ None) (sym fits) c.in_default-replace_all.ensures.free
