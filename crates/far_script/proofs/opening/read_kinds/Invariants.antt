use Rattle.std.proofs.Common.{◌≡◌, ◌++◌, option_map, length}
use denote.Shadow.{shadow}
use denote.Text.{Utf8}
use Rattle.std.specs.List.{slice_split}
use Rattle.far_script.specs.OneRecord.{is_comma}
use Rattle.far_script.specs.Openings.{kinds_named}
use Rattle.far_script.proofs.opening.read_kinds.Given as goal

abbrev pub invariant-loop-name : goal.invariant-loop-name
invariant-loop-name l = record {
  text : shadow (Utf8 l.rest);
  kinds : option_map (λ more. l.kinds.items ++ more) (kinds_named (slice_split is_comma l.rest)) ≡ kinds_named (slice_split is_comma l.word);
}

abbrev pub decreases-loop-name : goal.decreases-loop-name
decreases-loop-name l = length l.rest
