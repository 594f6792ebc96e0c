-- What is found: of a node's content, and of the node.
use Rattle.std.specs.Prelude.{List, ℕ, ◌^◌}
use Rattle.model.specs.Sheet.{Rule}
use Rattle.model.specs.Run.{child_states}
use Rattle.model.specs.Index.{rules_in}
use Rattle.judge_rules.specs.Found.{Finds}
use Rattle.judge_rules.specs.declared.targets.Found.{Found}
use Rattle.judge_node.specs.Node.{words_inside, inside_targets, inside_looks, node_targets, node_looks}
use Rattle.judge_node.specs.declared.node.Node.{Node}

abbrev pub rules_of : Node → List Rule
rules_of n = rules_in n.book.now.sheet.words.now

-- the state words of its children
abbrev pub words_of : Node → List ℕ
words_of n = words_inside n.nodes.tree.now n.nodes.states.now n.number

-- what its content reaches
abbrev pub FindsInside : Node → Found → Type 0
FindsInside n f = let w = child_states (words_of n) in Finds (2 ^ 42) f (inside_targets (rules_of n) w) (inside_looks (rules_of n) w)

-- what it reaches
abbrev pub FindsNode : Node → Found → Type 0
FindsNode n f =
    Finds (2 ^ 43) f (node_targets (rules_of n) n.nodes.tree.now n.nodes.states.now n.number)
    (node_looks (rules_of n) n.nodes.tree.now n.nodes.states.now n.number)
