use Rattle.std.proofs.Common.{◌≡◌, ◌++◌, option_map, length}
use Rattle.far_script.specs.Words.{words_in}
use Rattle.far_script.specs.Watches.{tests_of}
use Rattle.far_script.proofs.watch.read_tests.Given as goal

abbrev pub invariant-loop-words : goal.invariant-loop-words
invariant-loop-words l = option_map (λ more. l.tests.items ++ more) (tests_of l.kinds (words_in l.words)) ≡ tests_of l.kinds (words_in l.fn.words)

abbrev pub decreases-loop-words : goal.decreases-loop-words
decreases-loop-words l = length (words_in l.words)
