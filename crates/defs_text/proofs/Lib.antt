mod BlockRows
mod FlowRows
mod TagRows
