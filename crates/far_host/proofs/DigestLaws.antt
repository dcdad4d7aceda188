-- The digest of a content, from its parts.
use Rattle.std.proofs.Common.{◌≡◌, ℕ, ◌*◌, ◌≤◌, List, ◌++◌, length, take, drop, ap, refl}
use Rattle.std.proofs.lemmas.Bool.{le-ltb}
use Rattle.std.proofs.lemmas.List.{append_assoc}
use Rattle.sha2.specs.Sha256.{digest_bytes, final_hash, initial_hash_256, sha256}
use Rattle.far_host.specs.ContentDigest.{content_digest, part, part_len, rest}

-- the digest of a part, from the hash value of its bytes
pub part_digest : (content h digest : List ℕ) (j start len : ℕ) → start ≡ j * part_len content → len ≡ part_len content
    → h ≡ final_hash initial_hash_256 (take len (drop start content)) → digest ≡ digest_bytes h 8 → digest ≡ sha256 (part content j)
unfolding sha256
part_digest content h digest j start len from all hashed is = rw (is, hashed, from, all) refl

-- the digest of a long content, from the digests of its parts
pub digest_of_parts : (content a b c d digest : List ℕ) → 1024 ≤ length content
    → a ≡ sha256 (part content 0) → b ≡ sha256 (part content 1) → c ≡ sha256 (part content 2) → d ≡ sha256 (part content 3)
    → digest ≡ sha256 ((((a ++ b) ++ c) ++ d) ++ rest content) → digest ≡ content_digest content
digest_of_parts content a b c d digest long ea eb ec ed is =
    let behind : List ℕ = rest content in
    rw (is, le-ltb (length content) 1024 long, ← ea, ← eb, ← ec, ← ed)
    (ap sha256 (rw (append_assoc ((a ++ b) ++ c) d behind, append_assoc (a ++ b) c (d ++ behind), append_assoc a b (c ++ (d ++ behind))) refl))
