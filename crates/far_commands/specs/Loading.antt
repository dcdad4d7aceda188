-- How a load reads its records, and its reply.
-- Internal: no public contract cites it.
use Rattle.std.specs.Prelude.{◌≡◌, ◌<◌, ℕ, false, List, [], ◌++◌, length, codes, Option, Some}
use Rattle.std.specs.Option.{option_map_or}
use Rattle.csv.specs.Machine.{ends_at_end}
use Rattle.csv.specs.Reading.{default_config, records_from, source_of, Ready, reader_config, reader_state, reader_trim}
use Rattle.csv.specs.declared.reader.Reader.{Reader}
use Rattle.csv.specs.declared.reader.Trim.TheVariants as trim
use Rattle.far_types.specs.declared.refusal.Refusal.{Refusal}
use Rattle.far_script.specs.Printing.{numbered_text, refusal_text}

-- these are the records that a reader has not returned yet
pub record Remains {R : Type 0} (rem : R → Option (List ℕ)) (reader : Reader R)
    (rows : List (List (List ℕ))) : Type 0 where
  pub fuel : ℕ
  pub rest : List ℕ
  pub source : source_of rem reader ≡ Some rest
  pub enough : length rest < fuel
  pub between : ends_at_end (reader_state reader) ≡ false
  pub all : rows ≡ records_from default_config fuel (reader_state reader) rest
  pub untrimmed : reader_trim reader ≡ trim.None
  pub ready : Ready reader
  pub config : reader_config reader ≡ default_config

-- the reply to a load: the number of rows that it inserted, and the refusal that ended it, if one did
abbrev pub loaded_text : ℕ → Option Refusal → List ℕ
loaded_text count refusal = numbered_text (codes "loaded") count
    ++ option_map_or refusal_text refusal []
