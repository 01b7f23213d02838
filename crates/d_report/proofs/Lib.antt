mod PrintFacts
mod LineFacts
mod ShownCells
mod GroupFacts
mod PlanTexts
mod PlanLevels
