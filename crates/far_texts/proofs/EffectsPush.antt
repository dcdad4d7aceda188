-- What appending a text to a column does, once its new form is stored.
use Rattle.std.proofs.Common.{◌≡◌, ℕ, ◌≤◌, Bool, true, false, cond, List, [], ◌∷◌, ◌++◌, length, Option, None, Some, sym, ap, subst, ◌∙◌}
use Rattle.far_codec.specs.TextForm.{texts_form, texts_meaning, IsTextsForm}
use Rattle.far_scopes.specs.Memory.{ChangesList}
use Rattle.far_scopes.specs.Movement.{Movement}
use Rattle.far_texts.specs.Texts.{Texts, Lists, HasGroups, IsTextColumn, lists_of, texts_at, texts_in}
use Rattle.far_texts.specs.Columns.{ChangesColumn}
use Rattle.far_texts.specs.Effects.{begins_group, last_object, next_object, group_with_next, TextPushed}
use Rattle.far_texts.specs.Storing.{GroupBegun, GroupExtended}
use Rattle.far_texts.proofs.TextsChanges.{keeps-others-new, keeps-same}
use Rattle.far_texts.proofs.ColumnsLaws.{pushed-disjoint}
use Rattle.far_texts.proofs.EffectsAppend.{form-is, pushed-begun, pushed-longer, next-alone, next-behind, begun-is, begun-texts, longer-is, longer-texts, longer-others, moved-begun, moved-longer}

module _ {K : Type 0} (content : K → List ℕ) (m : Movement ℕ K) (c : Texts) (is : IsTextColumn (lists_of content m) c) (has : HasGroups c) (fresh : lists_of content m (length m.records) ≡ None) where
  abbrev old : Lists
  old = lists_of content m

  abbrev n : ℕ
  n = length m.records

  -- nothing is changed
  pub same : (now : Movement ℕ K) (c' : Texts) → (c' ≡ c) × (now ≡ m) → ChangesColumn old (lists_of content now) c c'
  same now c' err =
      subst (ChangesColumn old (lists_of content now) c) (sym err.0)
      (subst (λ w. ChangesColumn old (lists_of content w) c c) (sym err.1) record { is = is; others = keeps-same old c; disjoint = λ d _ disjoint. disjoint })

  module _ (text : Option (List ℕ)) (bytes : List ℕ) (form : IsTextsForm bytes) (means : texts_meaning bytes ≡ group_with_next (lists_of content m) c text) (short : length bytes ≤ c.limit) (given : List ℕ) (given_is : given ≡ bytes) where
    abbrev next : List ℕ
    next = texts_form (group_with_next old c text)

    -- the object of the next text has its form
    list-is : (now : Movement ℕ K) (o : ℕ) → o ≡ next_object content m c → ChangesList old (lists_of content now) o (Some given) → ChangesList old (lists_of content now) (next_object content m c) (Some next)
    list-is now o at list = subst (λ p. ChangesList old (lists_of content now) p (Some next)) at
        (subst (λ b. ChangesList old (lists_of content now) o (Some b)) (given_is ∙ form-is bytes (group_with_next old c text) form means) list)

    -- a row group begins
    module _ (begins : begins_group c ≡ true) (now : Movement ℕ K) (c' : Texts) (begun : GroupBegun content m c given now c') where
      begun-list : ChangesList old (lists_of content now) n (Some bytes)
      begun-list = subst (λ b. ChangesList old (lists_of content now) n (Some b)) given_is begun.list

      alone : texts_meaning bytes ≡ text ∷ []
      alone = means ∙ next-alone old c text begins

      pub begun-pushed : TextPushed content m c text now c'
      begun-pushed = record {
        pushed = begun.pushed;
        moved = begun.created ∙ moved-begun content m c text given begins (given_is ∙ form-is bytes (group_with_next old c text) form means);
        list = list-is now n (sym (ap (λ (b : Bool). cond b n (last_object c)) begins)) begun.list;
        texts = ap (texts_in (lists_of content now)) (begun.pushed ∙ pushed-begun c n begins)
            ∙ begun-texts old (lists_of content now) c is has n fresh bytes begun-list begins text alone;
      }

      pub begun-changed : ChangesColumn old (lists_of content now) c c'
      begun-changed = subst (ChangesColumn old (lists_of content now) c) (sym begun.pushed) record {
        is = subst (IsTextColumn (lists_of content now)) (sym (pushed-begun c n begins))
            (begun-is old (lists_of content now) c is has n fresh bytes begun-list begins text alone form short);
        others = keeps-others-new old (lists_of content now) n (Some bytes) begun-list c fresh;
        disjoint = λ d other disjoint. pushed-disjoint old c d n fresh other disjoint;
      }

    -- the last row group is not full
    module _ (begins : begins_group c ≡ false) (now : Movement ℕ K) (c' : Texts) (extended : GroupExtended content m c given now c') where
      extended-list : ChangesList old (lists_of content now) (last_object c) (Some bytes)
      extended-list = subst (λ b. ChangesList old (lists_of content now) (last_object c) (Some b)) given_is extended.list

      behind : texts_meaning bytes ≡ texts_at old (last_object c) ++ text ∷ []
      behind = means ∙ next-behind old c text begins

      pub extended-pushed : TextPushed content m c text now c'
      extended-pushed = record {
        pushed = extended.pushed;
        moved = extended.replaced ∙ moved-longer content m c text given begins (given_is ∙ form-is bytes (group_with_next old c text) form means);
        list = list-is now (last_object c) (sym (ap (λ (b : Bool). cond b n (last_object c)) begins)) extended.list;
        texts = ap (texts_in (lists_of content now)) (extended.pushed ∙ pushed-longer c n begins)
            ∙ longer-texts old (lists_of content now) c is has begins bytes extended-list text behind;
      }

      pub extended-changed : ChangesColumn old (lists_of content now) c c'
      extended-changed = subst (ChangesColumn old (lists_of content now) c) (sym extended.pushed) record {
        is = subst (IsTextColumn (lists_of content now)) (sym (pushed-longer c n begins))
            (longer-is old (lists_of content now) c is has begins bytes extended-list text behind form short);
        others = longer-others old (lists_of content now) c is has begins bytes extended-list;
        disjoint = λ d other disjoint. pushed-disjoint old c d n fresh other disjoint;
      }
