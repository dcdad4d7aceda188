-- The columns of the first tickets, with one more ticket.
use Rattle.std.proofs.Common.{◌≡◌, ℕ, ◌+◌, ◌<◌, List, [], ◌∷◌, ◌++◌, length, get_or, take, ap, ◌∙◌}
use Rattle.std.proofs.lemmas.List.{take_more, map-append}
use Rattle.far_offload.specs.Columns.{cells_meant}
use Rattle.far_offload.specs.Jobs.{columns_under}

pub columns-more : {K : Type 0} (content : K → List ℕ) (tickets : List (ℕ × K)) (i : ℕ) (ticket : ℕ × K) → i < length tickets → get_or tickets i ticket ≡ ticket → columns_under content (take (i + 1) tickets) ≡ columns_under content (take i tickets) ++ (ticket.0, cells_meant (content ticket.1)) ∷ []
columns-more content tickets i ticket within is =
    ap (columns_under content) (take_more tickets i ticket within)
    ∙ map-append (λ t. (t.0, cells_meant (content t.1))) (take i tickets) (get_or tickets i ticket ∷ [])
    ∙ ap (λ t. columns_under content (take i tickets) ++ (t.0, cells_meant (content t.1)) ∷ []) is
