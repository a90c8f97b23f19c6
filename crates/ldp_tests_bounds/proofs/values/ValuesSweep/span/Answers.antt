use Rattle.ldp_tests_bounds.proofs.values.ValuesSweep.span.Goals as goal

pub span_of-requires-clause-ordered : goal.span_of-requires-clause-ordered
span_of-requires-clause-ordered c =
    (c.args.self.now.cut.each c.args.at c.node-node.result c.node-node.ensures).ordered

pub span_of-requires-clause-inside : goal.span_of-requires-clause-inside
span_of-requires-clause-inside c =
    rw c.deref.ensures.value
    (c.args.self.now.cut.each c.args.at c.node-node.result c.node-node.ensures).inside
