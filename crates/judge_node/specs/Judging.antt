-- What a node is judged by.
use Rattle.std.specs.Prelude.{List, [], ℕ, ◌+◌, ◌<◌, length}
use Rattle.model.specs.Index.{rules_in}
use Rattle.judge_rules.specs.declared.targets.Found.{Found}
use Rattle.judge_contents.specs.Content.{FindsContent}
use Rattle.judge_node.specs.Node.{Small}

-- By a sheet, and what content without children reaches; by state words, of which those of the nodes after this one are known.
pub record Judging (s : List ℕ) (nothing : Found) (states : List ℕ) (node : ℕ) : Type 0 where
  pub unlooked : FindsContent (rules_in s) [] nothing
  pub within : node < length states
  pub small : Small (node + 1) states
