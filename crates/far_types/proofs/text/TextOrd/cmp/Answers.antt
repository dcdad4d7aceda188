use Rattle.std.proofs.Common.{nat_cmp, sym, ◌∙◌}
use Rattle.std.specs.Cmp.Lexicographic.{slice_cmp}
use Rattle.std.specs.String.{string_bytes}
use Rattle.far_types.proofs.PrefixesLaws.{decided}
use Rattle.far_types.proofs.text.TextOrd.cmp.Goals as goal

pub returns : goal.returns
returns c =
    let mine = c.self.invariant in
    let theirs = c.other.invariant in
    c.cmp-2.ensures
    ∙ (λ i. nat_cmp (mine.0 i) (theirs.0 i))
    ∙ decided 8 (string_bytes c.self.inside.string) (string_bytes c.other.inside.string) mine.1 theirs.1 (λ same. c.if-self-other.false (mine.0 ∙ same ∙ sym theirs.0))
    ∙ (λ i. slice_cmp nat_cmp (c.self.view_is i) (c.other.view_is i))
