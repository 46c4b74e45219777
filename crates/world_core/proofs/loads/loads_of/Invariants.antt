use Rattle.std.proofs.Common.{◌≡◌, length, map, take}
use Rattle.std.specs.Prelude.{vec_len, vec_capacity}
use Rattle.world_core.proofs.Prelude.{load_of}
use Rattle.world_core.proofs.loads.loads_of.Given as goal

-- the cells so far have their loads
abbrev pub invariant-loop-steps : goal.invariant-loop-steps
invariant-loop-steps l = record {
  loads : l.loads.items ≡ map load_of (take l.steps-index l.slices);
  count : vec_len l.loads ≡ l.steps-index;
  room : vec_capacity l.loads ≡ length l.slices;
}
