pub mod StepBytes
