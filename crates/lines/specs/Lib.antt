-- Lines of hexadecimal: the rules' words for boards and prices (RULES 9.1 to 9.3).
pub mod BoardLine
pub mod PriceLine
pub mod Answers
pub mod Outputs
