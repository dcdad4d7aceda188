-- The far copies of clean objects.
use Rattle.std.proofs.Common.{◌≡◌, ℕ, Bool, true, false, List, Option, None, Some, refl, sym, ap, subst, ◌∙◌}
use Rattle.std.specs.Prelude.{cond, is_some, option_map, IfSome, IsSomeAnd}
use Rattle.std.specs.Option.{option_and_then}
use Rattle.std.proofs.lemmas.Option.{none-some}
use Rattle.far_pointer.specs.declared.pointer.Pointer.{Pointer}
use Rattle.far_pointer.specs.declared.pointer.Pointer.TheVariants.{Local, Remote}
use Rattle.far_pointer.specs.Layout.{is_dirty}
use Rattle.far_codec.specs.Reading.{ints_meaning}
use Rattle.far_scopes.specs.Memory.{at_of}
use Rattle.far_scopes.specs.Movement.{Movement, dirty, is_local, meant, ticket_of, word_of}
use Rattle.far_columns.specs.Numbers.{Numbers, number_lists}
use Rattle.far_texts.specs.Texts.{lists_of}
use Rattle.far_rows.specs.declared.object.Object.{Object}
use Rattle.far_rows.specs.declared.object.Object.TheVariants as object
use Rattle.far_rows.specs.Rows.{Rows, AreRows}
use Rattle.far_rows.specs.Moving.{object_at}
use Rattle.far_rows.specs.Jobs.{AreAt, SpellsNumbers, SpellsTexts}
use Rattle.far_rows.specs.Copies.{clean_ticket, Spells, IsCopyOf}

-- a property of every possible element is one of the element that is found
pub if-found : {A K : Type 0} (f : A → K) (found : Option A) (is : Option K) (P : K → Type 0) → option_map f found ≡ is → ((x : K) → is ≡ Some x → P x) → IfSome found (λ a. P (f a))
if-found f None is P same holds = tt
if-found f (Some a) is P same holds = holds (f a) (sym same)

-- a property of every element with property Q is one of the element that is found, if it has Q
pub both-found : {A K : Type 0} (f : A → K) (found : Option A) (is : Option K) (Q P : K → Type 0) → option_map f found ≡ is → IfSome found (λ a. Q (f a)) → ((x : K) → is ≡ Some x → Q x → P x) → IfSome found (λ a. P (f a))
both-found f None is Q P same known holds = tt
both-found f (Some a) is Q P same known holds = holds (f a) (sym same) known

-- if there is a ticket of a clean object, the object is clean and has this ticket
pub clean-is : {K : Type 0} (b : Bool) (ticket : Option K) (t : K) → cond b None ticket ≡ Some t → (b ≡ false) × (ticket ≡ Some t)
clean-is true ticket t is = absurd (none-some t is)
clean-is false ticket t is = (refl, is)

-- the word of an object that is away is not dirty
not-dirty : (w : Pointer) → is_some (at_of w) ≡ false → is_dirty w ≡ false
not-dirty (Local at dirty hot far) away = absurd cc
not-dirty Remote away = refl

module _ {X K : Type 0} (m : Movement X K) (o : ℕ) (w : Pointer) (word : word_of m o ≡ Some w) (away : is_local m o ≡ false) where
  no-place : is_some (at_of w) ≡ false
  no-place = sym (ap (λ (found : Option Pointer). is_some (option_and_then at_of found)) word) ∙ away

  pub away-clean : is_dirty w ≡ false
  away-clean = not-dirty w no-place

module _ {K : Type 0} (content : K → List ℕ) (r : Rows K) (are : AreRows content r) (column group o : ℕ) where
  -- the content of the ticket of a clean object is the object's far form
  pub number-copied : object_at r column group ≡ Some (object.Number o) → (t : K) → clean_ticket r.number_objects o ≡ Some t → SpellsNumbers (ints_meaning (content t)) (content t) → IsCopyOf content r t column group
  number-copied at t clean spelled =
      let ticket = clean-is (dirty r.number_objects o) (ticket_of r.number_objects o) t clean in
      let there : number_lists content r.number_objects o ≡ Some (ints_meaning (content t)) = are.clean_numbers o ticket.0 ∙ ap (option_map (meant ints_meaning content)) ticket.1 in
      subst (λ (found : Option Object). IsSomeAnd found (Spells content r t)) (sym at)
      (subst (λ (list : Option Numbers). IsSomeAnd list (λ l. SpellsNumbers l (content t))) (sym there) spelled)

  pub text-copied : object_at r column group ≡ Some (object.Text o) → (t : K) → clean_ticket r.text_objects o ≡ Some t → SpellsTexts (content t) (content t) → IsCopyOf content r t column group
  text-copied at t clean spelled =
      let ticket = clean-is (dirty r.text_objects o) (ticket_of r.text_objects o) t clean in
      let there : lists_of content r.text_objects o ≡ Some (content t) = are.clean_texts o ticket.0 ∙ ap (option_map (meant (λ bytes. bytes) content)) ticket.1 in
      subst (λ (found : Option Object). IsSomeAnd found (Spells content r t)) (sym at)
      (subst (λ (list : Option (List ℕ)). IsSomeAnd list (λ l. SpellsTexts l (content t))) (sym there) spelled)

  -- the ticket belongs to the store of the rows
  pub number-here : (is_of : K → List ℕ → Type 0) (id : List ℕ) → AreAt is_of id r → (t : K) → clean_ticket r.number_objects o ≡ Some t → is_of t id
  number-here is_of id here t clean = subst (λ (ticket : Option K). IfSome ticket (λ k. is_of k id)) (clean-is (dirty r.number_objects o) (ticket_of r.number_objects o) t clean).1 (here.numbers o)

  pub text-here : (is_of : K → List ℕ → Type 0) (id : List ℕ) → AreAt is_of id r → (t : K) → clean_ticket r.text_objects o ≡ Some t → is_of t id
  text-here is_of id here t clean = subst (λ (ticket : Option K). IfSome ticket (λ k. is_of k id)) (clean-is (dirty r.text_objects o) (ticket_of r.text_objects o) t clean).1 (here.texts o)
