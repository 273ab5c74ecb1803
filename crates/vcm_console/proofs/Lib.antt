pub mod LinesRead
pub mod LineRoom
pub mod RaisedNames
pub mod ListedLine
pub mod OneLine
