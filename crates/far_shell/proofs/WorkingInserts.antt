-- The inserts of a session, one after another.
use Rattle.std.proofs.Common.{◌≡◌, ℕ, ◌+◌, List, [], ◌∷◌, ◌++◌, refl, sym, ap, ◌∙◌, append_assoc, append-nil, add-one}
use Rattle.far_types.specs.declared.edit.Edit.TheVariants as edit
use Rattle.far_sessions.specs.Rule.{entry}
use Rattle.far_sessions.specs.declared.view.Entry.{Entry}
use Rattle.far_sessions.specs.Known.{Known, at}
use Rattle.far_shell.specs.Runs.{inserts, row_of_one}
use Rattle.far_shell.specs.Working.{Makes}

-- at the beginning a session has made none
pub makes-none : (k : ℕ) (me : Known) → Makes k 0 me me
makes-none k me = record { by = refl; mine = sym (append-nil (at me k).mine); others = λ i low other. refl }

-- making one more
pub makes-more : (k n : ℕ) (before mid after : Known) → Makes k n before mid → Makes k 1 mid after → Makes k (n + 1) before after
makes-more k n before mid after first then =
    let by : (at mid k).by ≡ (at before k).by = first.by in
    let one : List Entry = entry (at before k).by (edit.Insert row_of_one) ∷ [] in record {
      by = then.by ∙ by;
      mine = then.mine
          ∙ ap (λ (s : ℕ). (at mid k).mine ++ inserts s 1) by
          ∙ ap (λ (l : List Entry). l ++ one) first.mine
          ∙ append_assoc (at before k).mine (inserts (at before k).by n) one
          ∙ ap (λ (m : ℕ). (at before k).mine ++ inserts (at before k).by m) (sym (add-one n));
      others = λ i low other. then.others i low other ∙ first.others i low other;
    }
