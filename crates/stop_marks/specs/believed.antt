pub mod StopMarks
