-- `Sources::name_of` meets its contract: the index bounds the name.
use mathlib.Core.Path.{sym}
use native.Mathlib.Omega.{arith}
use Rattle.write_nodes.proofs.TagLaws.{tag_below, tag_lies}
use Rattle.write_nodes.proofs.Sources.name_of.Goals as goal

pub bounds-self-a : goal.bounds-self-a
bounds-self-a c = omega (arith, tag_below c.requires)

pub bounds-self-a-2 : goal.bounds-self-a-2
bounds-self-a-2 c = tag_below c.requires

pub overflow_sub-result-2 : goal.overflow_sub-result-2
overflow_sub-result-2 c = omega (arith, (tag_lies c.requires c.args.self.now.indexed).after)

pub slice_bounds-result-count : goal.slice_bounds-result-count
slice_bounds-result-count c = omega (arith, (tag_lies c.requires c.args.self.now.indexed).after)

pub slice_bounds-result-start : goal.slice_bounds-result-start
slice_bounds-result-start c = omega (arith, (tag_lies c.requires c.args.self.now.indexed).after)

pub slice_bounds-result-end : goal.slice_bounds-result-end
slice_bounds-result-end c = omega (arith, (tag_lies c.requires c.args.self.now.indexed).within)

pub returns : goal.returns
returns c = sym (tag_lies c.requires c.args.self.now.indexed).name
