-- The digest that a store notes of a content: the SHA-256 of a short content, and otherwise the SHA-256 of the digests of its four parts.
-- Two different contents of one length with the same digest yield two different messages with the same SHA-256. For short contents these
-- are the contents. For others they are the two lists of digests, if those differ. If they do not, the contents have the same digests of
-- their parts, each of 32 bytes, and the same bytes after the parts. Then the contents differ in a part, and the messages are that part of
-- each.
use Rattle.std.specs.Prelude.{ℕ, ◌*◌, ◌/◌, ltb, cond, List, ◌++◌, length, take, drop}
use Rattle.sha2.specs.Sha256.{sha256}

-- the length of a part: each has as many whole blocks of 64 bytes
abbrev pub part_len : List ℕ → ℕ
part_len content = length content / 256 * 64

-- part j of a content, counted from 0
abbrev pub part : List ℕ → ℕ → List ℕ
part content j = take (part_len content) (drop (j * part_len content) content)

-- the bytes after the four parts, fewer than 256
abbrev pub rest : List ℕ → List ℕ
rest content = drop (4 * part_len content) content

-- the digests of the four parts one after another, and the rest
abbrev pub part_digests : List ℕ → List ℕ
part_digests content =
    sha256 (part content 0)
    ++ (sha256 (part content 1)
    ++ (sha256 (part content 2)
    ++ (sha256 (part content 3) ++ rest content)))

-- the digest of a content; from 1,024 bytes on it is made from the parts
abbrev pub content_digest : List ℕ → List ℕ
content_digest content = cond (ltb (length content) 1024)
    (sha256 content)
    (sha256 (part_digests content))
