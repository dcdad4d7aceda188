-- The state of stacks, segments and a region after a mutable borrow of a list ends.
use Rattle.std.specs.Prelude.{ℕ, List, ◌++◌, length, take, drop}
use Rattle.std.specs.Borrow.{Lends, Fml, RattleType, MutBor, Array}
use Rattle.std.specs.Vec.{with_items}
use Rattle.far_log.specs.RegionState.{RegionState}
use Rattle.far_log.specs.Effects.{written_over, after_write_at}
use Rattle.far_log.specs.Stacking.{Stacked, stack_of, with_stack}
use Rattle.far_pointer.specs.declared.pointer.At.{At}
use Rattle.far_log.specs.declared.block.Block.{Block}
use Rattle.far_log.specs.contracts.block.Block as block
use Rattle.far_log.specs.contracts.stacks.Stacks as stacks
use Rattle.far_log.specs.contracts.segments.Segments as segments
use Rattle.far_log.specs.contracts.region.Region as region

-- internal: a block with ws written over its elements from an index on
abbrev pub with_list_from : {X : Type 0} → Block X → ℕ → List X → Block X
with_list_from b from ws = record b {
  items = with_items b.items
      (take from b.items.items ++ (ws ++ drop (length ws) (drop from b.items.items)));
}

module _ (T : RattleType) (s : MutBor (Block T.Denot)) where
  -- internal: when the borrow r ends, its list is written over the block's elements from an index on
  abbrev pub lends_block : ℕ → MutBor (List T.Denot) → Fml
  lends_block from r = Lends (block.the_row T) (Array T 0) s r (with_list_from s.now from)

  -- internal: when the borrow r ends, at most `most` elements of its list are written over the block's elements from an index on
  abbrev pub lends_bounded : ℕ → ℕ → MutBor (List T.Denot) → Fml
  lends_bounded from most r = Lends (block.the_row T) (Array T 0) s r
      (λ ws. with_list_from s.now from (take most ws))

module _ (T : RattleType) (s : MutBor (Stacked T.Denot)) where
  -- internal: when the borrow r ends, its list is written over the elements of a stack from index `from` on
  abbrev pub lends_stack : ℕ → ℕ → MutBor (List T.Denot) → Fml
  lends_stack number from r = Lends (stacks.the_row T) (Array T 0) s r
      (λ ws. with_stack s.now number (written_over (stack_of s.now number) from ws))

module _ (T : RattleType) (s : MutBor (RegionState T.Denot)) where
  -- internal: when the borrow r ends, its list is written over the elements from the i-th after a location on
  abbrev pub lends_range : At → ℕ → MutBor (List T.Denot) → Fml
  lends_range at i r = Lends (segments.the_row T) (Array T 0) s r (after_write_at s.now at i)

  -- when the borrow r ends, its list is written over the elements from the i-th after a location on
  abbrev pub lends_part : At → ℕ → MutBor (List T.Denot) → Fml
  lends_part at i r = Lends (region.the_row T) (Array T 0) s r (after_write_at s.now at i)
