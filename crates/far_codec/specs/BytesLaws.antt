-- A far form of texts, as a list of bytes, is its own spelling.
use Rattle.std.proofs.Common.{◌≡◌, ℕ, ◌<◌, ◌^◌, List, All, refl}
use Rattle.far_codec.specs.TextForm.{IsTextsForm}

-- decoding a spelling returns the list
pub bytes_read_back : (bytes : List ℕ) → All (λ byte. byte < 2 ^ 8) bytes → IsTextsForm bytes
    → bytes ≡ bytes
bytes_read_back bytes range form = refl

-- different lists have different spellings
pub one_bytes_list : (one other : List ℕ) → All (λ byte. byte < 2 ^ 8) one
    → All (λ byte. byte < 2 ^ 8) other → IsTextsForm one → one ≡ other → one ≡ other
one_bytes_list one other range range_too form same = same
