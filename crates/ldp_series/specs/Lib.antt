pub mod Cut
pub mod CutRuns
pub mod Draft
pub mod Formula
pub mod Series
pub mod StepList
pub mod Shape
