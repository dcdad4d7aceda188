use Rattle.std.proofs.Common.{◌≡◌, ℕ, ◌+◌, ◌<◌, ◌++◌, length, drop, List, Option, Some}
use Rattle.std.specs.Prelude.{slice_get, vec_capacity}
use Rattle.far_texts.specs.Texts.{Texts, lists_of}
use Rattle.far_texts.specs.Together.{next_forms, forms_of, IsNextForm}
use Rattle.far_texts.proofs.text_column.together.forms.next_forms.Given as goal

abbrev pub invariant-loop-k : goal.invariant-loop-k
invariant-loop-k g l =
    let lists = lists_of g.S.FarTickets.content l.objects in
    let n = length l.objects.records in
    (forms_of l.forms.items ++ next_forms lists (n + l.k) (drop l.k l.columns) (drop l.k l.texts) ≡ next_forms lists n l.columns l.texts)
    × ((j : ℕ) (c : Texts) (text : Option (List ℕ)) → j < l.k → slice_get l.columns j ≡ Some c → slice_get l.texts j ≡ Some text → IsNextForm lists c text)
    × (length l.forms.items ≡ l.k)
    × (vec_capacity l.forms ≡ length l.columns)
