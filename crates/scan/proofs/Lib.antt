mod Tests
mod Blocks
mod First
