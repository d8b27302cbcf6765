pub mod Cell
mod Present
