-- Tests, one after the other.
use Rattle.std.proofs.Common.{◌≡◌, List, [], ◌∷◌, ◌++◌, Option, Some, None, option_map, append_assoc, ◌∙◌, sym, ap}
use Rattle.far_types.specs.declared.filter.Test.{Test}

-- one test more, if those to come are known
one-more : (before : List Test) (test : Test) (more whole : Option (List Test))
    → option_map (λ rest. before ++ rest) (option_map (λ rest. test ∷ rest) more) ≡ whole
    → option_map (λ rest. (before ++ test ∷ []) ++ rest) more ≡ whole
one-more before test None whole e = e
one-more before test (Some rest) whole e = ap (λ (all : List Test). Some all) (append_assoc before (test ∷ []) rest) ∙ e

pub tests-go-on : (before after : List Test) (test : Test) (left more whole : Option (List Test))
    → left ≡ option_map (λ rest. test ∷ rest) more → after ≡ before ++ test ∷ []
    → option_map (λ rest. before ++ rest) left ≡ whole
    → option_map (λ rest. after ++ rest) more ≡ whole
tests-go-on before after test left more whole first grown e =
    rw grown (one-more before test more whole (sym (ap (λ (all : Option (List Test)). option_map (λ rest. before ++ rest) all) first) ∙ e))
